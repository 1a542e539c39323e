use Rattle.std.proofs.Common.{◌≡◌, List, map, sym, subst, ap, ◌∙◌, true, nat_eq}
use Rattle.std.proofs.lemmas.Bool.{eqb-true}
use Rattle.std.specs.List.{list_any}
use Rattle.logic_meaning.specs.Formula.{And}
use Rattle.logic_meaning.specs.Tree.{Tree, TrueAt}
use Rattle.formula_tree.specs.Shapes.{tree_over}
use Rattle.formula_tree.specs.Trees.{members}
use Rattle.formula_tree.specs.declared.shape.Shape.{Shape}
use Rattle.formula_store.specs.declared.id.FormulaId.{FormulaId}
use Rattle.formula_store.specs.Nodes.{tree}
use Rattle.short_answers.proofs.Adding.{each_found}
use Rattle.short_answers.proofs.Distributed.{each_in, each_unmapped}
use Rattle.short_answers.proofs.hull.has_member.Goals as goal

pub returns-in-And : goal.returns-in-And
returns-in-And c = λ yes_member o ks p of_o k h.
    let t = tree c.args.store.now in
    let ids : List FormulaId = c.in-And.ids in
    let whole : t c.args.id ≡ And (members (map t ids)) = subst (λ (s : Shape FormulaId). t c.args.id ≡ tree_over t s) c.in-And.is c.shape.ensures.tree in
    let found : list_any (λ (y : FormulaId). nat_eq y.number c.args.member.number) ids ≡ true =
    ap (list_any (λ (y : FormulaId). nat_eq y.number c.args.member.number)) (sym c.items.ensures) ∙ sym c.contains.ensures.value ∙ yes_member in
    let each = each_unmapped (λ (f : Tree). TrueAt o f p) t ids (each_in o p (map t ids) (subst (λ (f : Tree). TrueAt o f p) whole h)) in
    each_found (λ (id : FormulaId). TrueAt o (t id) p) c.args.member ids found each

pub returns-in_default : goal.returns-in_default
returns-in_default c = λ yes_member o ks p of_o k h.
    let same = eqb-true c.args.id.number c.args.member.number (sym c.eq.ensures ∙ yes_member) in
    subst (λ (id : FormulaId). TrueAt o (tree c.args.store.now id) p) (λ i. record { number = same i }) h
