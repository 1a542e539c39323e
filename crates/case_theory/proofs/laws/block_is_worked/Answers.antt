use Rattle.case_theory.proofs.Ends.{block_worked}
use Rattle.case_theory.proofs.laws.block_is_worked.Goals as goal

pub returns : goal.returns
returns c = block_worked
