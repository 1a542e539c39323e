use Rattle.std.proofs.Common.{◌≡◌, ◌∙◌, ap, subst, map, Some, List, length}
use Rattle.logic_meaning.specs.Fold.{from_pieces}
use Rattle.formula_tree.specs.Trees.{members}
use Rattle.formula_tree.specs.Shapes.{tree_over}
use Rattle.formula_tree.specs.Makers.{IsMade}
use Rattle.formula_store.specs.declared.id.FormulaId.{FormulaId}
use Rattle.formula_store.specs.Nodes.{tree, IsId}
use Rattle.normal_forms.proofs.Parts.{if_ok}
use Rattle.normal_forms.proofs.Formed.{many_joined}
use Rattle.normal_forms.proofs.normal.joined.Goals as goal

pub returns-clause-made : goal.returns-clause-made
returns-clause-made c =
    let not_none = subst (λ (us : List FormulaId). ¬ (length us ≡ 0)) c.items-count.ensures c.if-count-eq0.false in
    let not_one = subst (λ (us : List FormulaId). ¬ (length us ≡ 1)) c.items-count.ensures c.if-count-eq1.false in
    let same = ap (tree_over (tree c.args.store.now)) c.list.ensures ∙ many_joined (tree c.args.store.now) c.args.ids c.args.junction not_none not_one in
    if_ok (λ (r : FormulaId). IsMade (IsId c.made-2.new.store) (tree c.made-2.new.store) r (tree_over (tree c.args.store.now) c.list.result))
    (λ (r : FormulaId). IsMade (IsId c.made-2.new.store) (tree c.made-2.new.store) r (from_pieces c.args.junction (Some (members (map (tree c.args.store.now) c.args.ids)))))
    c.made-2.result c.made-2.ensures.made (λ r m. record { is = m.is; same = m.same ∙ same })
