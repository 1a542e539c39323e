use Rattle.std.proofs.Common.{◌≡◌, List, sym, subst, ◌∙◌}
use Rattle.normal_atoms.proofs.Stepped.{ok_map}
use Rattle.formula_tree.specs.Shapes.{AllIds, tree_over}
use Rattle.formula_tree.specs.declared.shape.Shape.{Shape}
use Rattle.formula_store.specs.declared.id.FormulaId.{FormulaId}
use Rattle.formula_store.specs.Nodes.{tree, IsId}
use Rattle.short_answers.specs.Cases.{ArePartsOf}
use Rattle.short_answers.proofs.Distributed.{conjunction_parts}
use Rattle.short_answers.proofs.cases.parts_of.Goals as goal

pub returns-in-And : goal.returns-in-And
returns-in-And c =
    let n = c.args.store.now in
    let f = tree n c.args.id in
    let ids : List FormulaId = c.in-And.ids in
    let are = subst (λ (s : Shape FormulaId). AllIds (IsId n) s) c.in-And.is c.shape.ensures.members in
    let whole = subst (λ (s : Shape FormulaId). f ≡ tree_over (tree n) s) c.in-And.is c.shape.ensures.tree in
    ok_map c.copied.result (λ v same. subst (ArePartsOf f n) (sym (same ∙ c.items.ensures)) (conjunction_parts n f ids are whole)) c.copied.ensures
