use Rattle.std.proofs.Common.{rules, sym, ap, ◌∙◌, subst}
use Rattle.formula_tree.specs.Makers.{IsMade}
use Rattle.formula_tree.specs.Shapes.{AllIds, tree_over}
use Rattle.formula_tree.proofs.Shapes.{over_moved, ids_moved}
use Rattle.formula_store.specs.Copies.{ported}
use Rattle.formula_store.specs.Nodes.{IsId, tree}
use Rattle.formula_store.proofs.port.Port.made.Goals as goal

pub make-requires-clause-ids : goal.make-requires-clause-ids
make-requires-clause-ids c =
    subst (AllIds (IsId c.args.into.now)) (sym c.in_ok-shape.ensures) (ids_moved (ported c.args.self.now.begun c.args.self.now.ids.now) (IsId c.args.into.now) c.args.shape.now c.requires.ids)

pub returns-clause-made : goal.returns-clause-made
returns-clause-made c =
    let made : IsMade (IsId c.make.new.self) (tree c.make.new.self) c.in_ok-id.id (tree_over (tree c.args.into.now) c.in_ok-shape.shape) = search rules in
    record {
      is = made.is;
      same = made.same ∙ ap (tree_over (tree c.args.into.now)) c.in_ok-shape.ensures ∙ over_moved (ported c.args.self.now.begun c.args.self.now.ids.now) (tree c.args.into.now) c.args.shape.now;
    }
