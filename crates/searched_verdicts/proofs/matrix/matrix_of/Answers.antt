use Rattle.std.proofs.Common.{◌-◌, ap, ◌∙◌, subst, arith}
use Rattle.formula_tree.specs.Shapes.{tree_over, AllIds}
use Rattle.formula_store.specs.Nodes.{tree, IsId}
use Rattle.searched_verdicts.proofs.Descending.{way_begun, way_further}
use Rattle.searched_verdicts.proofs.matrix.matrix_of.Goals as goal

pub levels-init : goal.levels-init
levels-init c = way_begun c.args.store.now c.args.id c.args.count c.requires

pub levels-preserved : goal.levels-preserved
levels-preserved c =
    let nodes = c.args.store.now in
    way_further nodes c.args.id c.args.count c.levels.left (c.levels.left - 1) c.levels.matrix c.in-Ex.inner c.in-Ex.field-0.number (let some = c.levels-test.true in omega arith) c.levels.invariant
    (c.shape.ensures.tree ∙ ap (tree_over (tree nodes)) c.in-Ex.is) (subst (AllIds (IsId nodes)) c.in-Ex.is c.shape.ensures.members)
