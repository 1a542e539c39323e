use Rattle.std.proofs.Common.{arith}
use Rattle.formula_store.specs.Nodes.{tree}
use Rattle.branch_pruning.proofs.AtomLists.{says_more, says_whole}
use Rattle.branch_pruning.proofs.conjunction.are_atoms.Goals as goal

pub loop-id-preserved : goal.loop-id-preserved
loop-id-preserved c = says_more (tree c.args.store.now) c.args.ids.now c.loop-id.id-index (record { number = 0 }) c.loop-id-test.true c.loop-id.invariant (c.is_atom.ensures c.if-not-is_atom.false)

pub returns : goal.returns
returns c true = says_whole (tree c.args.store.now) c.args.ids.now c.loop-id.id-index (omega arith) c.loop-id.invariant
