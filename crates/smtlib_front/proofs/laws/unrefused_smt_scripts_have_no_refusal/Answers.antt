use Rattle.smtlib_front.proofs.Unrefused.{unrefused_scripts}
use Rattle.smtlib_front.proofs.laws.unrefused_smt_scripts_have_no_refusal.Goals as goal

pub returns : goal.returns
returns c = unrefused_scripts
