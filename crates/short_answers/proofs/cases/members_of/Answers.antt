use Rattle.std.proofs.Common.{◌≡◌, List, sym, subst, ◌∙◌}
use Rattle.normal_atoms.proofs.Stepped.{ok_map}
use Rattle.formula_tree.specs.Shapes.{AllIds, tree_over}
use Rattle.formula_tree.specs.declared.shape.Shape.{Shape}
use Rattle.formula_store.specs.declared.id.FormulaId.{FormulaId}
use Rattle.formula_store.specs.Nodes.{tree, IsId}
use Rattle.short_answers.specs.Cases.{AreMembersOf}
use Rattle.short_answers.proofs.Distributed.{disjunction_members}
use Rattle.short_answers.proofs.cases.members_of.Goals as goal

pub returns-in-Or : goal.returns-in-Or
returns-in-Or c =
    let n = c.args.store.now in
    let f = tree n c.args.id in
    let ids : List FormulaId = c.in-Or.ids in
    let are = subst (λ (s : Shape FormulaId). AllIds (IsId n) s) c.in-Or.is c.shape.ensures.members in
    let whole = subst (λ (s : Shape FormulaId). f ≡ tree_over (tree n) s) c.in-Or.is c.shape.ensures.tree in
    ok_map c.copied.result (λ v same. subst (AreMembersOf f n) (sym (same ∙ c.items.ensures)) (disjunction_members n f ids are whole)) c.copied.ensures
