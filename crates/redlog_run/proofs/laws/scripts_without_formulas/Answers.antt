use Rattle.redlog_run.proofs.Choices.{ending_is_answered, choices_are_answered, none_is_refused}
use Rattle.redlog_run.proofs.ChoiceExample.{some_choice_is_answered}
use Rattle.redlog_run.proofs.laws.scripts_without_formulas.Goals as goal

pub returns : goal.returns
returns c = record { ending = ending_is_answered; choices = choices_are_answered; none_refused = none_is_refused; example = some_choice_is_answered }
