use Rattle.std.proofs.Common.{List, sym, ap, ◌∙◌, subst}
use Rattle.std.proofs.lemmas.Result.{IfOk-weaker}
use Rattle.formula_tree.specs.Makers.{IsMade}
use Rattle.formula_tree.specs.Shapes.{AllIds, tree_over}
use Rattle.formula_store.specs.declared.id.FormulaId.{FormulaId}
use Rattle.formula_store.specs.Copies.{ported, Copied}
use Rattle.formula_store.specs.Nodes.{IsId, tree}
use Rattle.formula_store.proofs.Copying.{copies_are, copies_same}
use Rattle.formula_store.proofs.keep.copied_node.Goals as goal

pub made-requires-clause-ids : goal.made-requires-clause-ids
made-requires-clause-ids c =
    subst (λ (l : List FormulaId). AllIds (λ id. IsId c.args.into.now (ported 0 l id)) c.shape.result.now) (sym c.deref.ensures.value)
    (copies_are c.args.store.now c.args.table.now.items c.args.into.now c.shape.result.now (c.requires.members c.shape.result.now c.shape.ensures.node))

pub returns-clause-copied : goal.returns-clause-copied
returns-clause-copied c =
    IfOk-weaker c.made.result (λ copy. IsMade (IsId c.made.new.into) (tree c.made.new.into) copy (tree_over (λ id. tree c.args.into.now (ported 0 c.deref.result.now id)) c.shape.result.now))
    (Copied c.args.store.now c.made.new.into c.args.id)
    (λ copy m. record {
      is = m.is;
      same = m.same ∙ ap (λ (l : List FormulaId). tree_over (λ id. tree c.args.into.now (ported 0 l id)) c.shape.result.now) c.deref.ensures.value
          ∙ copies_same c.args.store.now c.args.table.now.items c.args.into.now c.shape.result.now (c.requires.members c.shape.result.now c.shape.ensures.node) ∙ sym c.shape.ensures.tree;
    })
    c.made.ensures.made
