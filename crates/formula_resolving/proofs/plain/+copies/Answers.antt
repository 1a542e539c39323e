use Rattle.std.proofs.Common.{arith}
use Rattle.formula_resolving.proofs.Measures.{tree_below}
use Rattle.formula_resolving.proofs.plain.+copies.Goals as goal

pub all_copied-copied-requires : goal.all_copied-copied-requires
all_copied-copied-requires t c = ((let k = tree_below _ _ _ c.tree-item.is c.loop-tree-test.true in omega arith), tt)
