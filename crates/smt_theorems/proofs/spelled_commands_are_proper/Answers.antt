use Rattle.smt_theorems.proofs.Spelled.{spelled_proper}
use Rattle.smt_theorems.proofs.spelled_commands_are_proper.Goals as goal

pub returns : goal.returns
returns c = spelled_proper
