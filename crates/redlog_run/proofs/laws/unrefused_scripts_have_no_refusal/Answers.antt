use Rattle.redlog_run.proofs.Unrefused.{unrefused_scripts}
use Rattle.redlog_run.proofs.laws.unrefused_scripts_have_no_refusal.Goals as goal

pub returns : goal.returns
returns c = unrefused_scripts
