use Rattle.redlog_run.proofs.Accepted.{never_refused}
use Rattle.redlog_run.proofs.AcceptedExample.{some_formula_is_unrefused}
use Rattle.redlog_run.proofs.laws.never_refused_is_unrefused.Goals as goal

pub returns : goal.returns
returns c = record { statements = never_refused; example = some_formula_is_unrefused }
