use Rattle.case_theory.proofs.Leading.{leading_split}
use Rattle.case_theory.proofs.laws.leading_block_is_split.Goals as goal

pub returns : goal.returns
returns c = leading_split
