use Rattle.session_state.specs.Scripted.{HasAnswers}
use Rattle.session_commands.proofs.AskedLemmas.{fact_of}
use Rattle.session_commands.proofs.session.answer_form_command.Goals as goal

pub answer_formula-requires-clause-answers : goal.answer_formula-requires-clause-answers
answer_formula-requires-clause-answers g c _ _ = fact_of (HasAnswers c.args.state.now) c.args.command.now c.in-Some.formula.now c.in-Some.ensures.formula c.requires.ready
