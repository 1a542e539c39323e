use Rattle.case_theory.proofs.Block.{block_somewhere}
use Rattle.case_theory.proofs.laws.block_has_no_order.Goals as goal

pub returns : goal.returns
returns c = block_somewhere
