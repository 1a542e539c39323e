use Rattle.std.proofs.Common.{◌≡◌, List, [], ◌∷◌, Bool, if◌then◌else◌, map, refl, sym, ap, ◌∙◌, subst}
use Rattle.std.specs.Prelude.{option_map, IfOk}
use Rattle.std.specs.List.{AllByRecursion}
use denote.Enum.Bare.{sameb}
use Rattle.logic_meaning.specs.contracts.junction.Junction.{the_type}
use Rattle.logic_meaning.specs.declared.junction.Junction.{Junction}
use Rattle.logic_meaning.specs.declared.junction.Junction.TheVariants.{Conjunction, Disjunction}
use Rattle.logic_meaning.specs.Fold.{absorbing, all_pieces, from_pieces}
use Rattle.logic_meaning.specs.Tree.{Tree}
use Rattle.formula_tree.specs.Makers.{IsMade}
use Rattle.formula_tree.specs.declared.shape.Shape.TheVariants as shape
use Rattle.formula_tree.specs.Shapes.{tree_over}
use Rattle.formula_tree.specs.Trees.{members}
use Rattle.formula_store.specs.declared.id.FormulaId.{FormulaId}
use Rattle.formula_store.specs.Nodes.{tree, IsId}
use Rattle.virtual_subst.specs.Shared.{made_of}
use Rattle.virtual_subst.proofs.folding.fold.Goals as goal

none_made : (ids : List FormulaId) → map (made_of []) ids ≡ ids
none_made [] = refl
none_made (id ∷ ids) = ap (λ (l : List FormulaId). id ∷ l) (none_made ids)

absorbing_made : (t : FormulaId → Tree) (j : Junction) → tree_over t (if sameb the_type j Disjunction then shape.True else shape.False) ≡ absorbing j
absorbing_made t Conjunction = refl
absorbing_made t Disjunction = refl

pub gathered-requires-clause-ids : goal.gathered-requires-clause-ids
gathered-requires-clause-ids g c = subst (AllByRecursion (IsId (g.M.Formulas.nodes c.args.formulas.now))) (sym (none_made c.args.ids.now)) c.requires

pub returns-in-Some-clause-made : goal.returns-in-Some-clause-made
returns-in-Some-clause-made g c =
    let t = tree (g.M.Formulas.nodes c.args.formulas.now) in
    let new = g.M.Formulas.nodes c.whole.new.formulas in
    let j = c.args.junction in
    let same = ap (λ (l : List FormulaId). all_pieces j (members (map t l))) (sym (none_made c.args.ids.now)) ∙ c.in_ok-pieces.ensures.pieces ∙ ap (option_map (λ v. members (map t v.items))) c.in-Some.is in
    subst (λ (f : Tree). IfOk c.whole.result (λ id. IsMade (IsId new) (tree new) id f)) (ap (from_pieces j) (sym same)) c.whole.ensures.made

pub returns-in-None-clause-made : goal.returns-in-None-clause-made
returns-in-None-clause-made g c =
    let t = tree (g.M.Formulas.nodes c.args.formulas.now) in
    let new = g.M.Formulas.nodes c.add.new.self in
    let j = c.args.junction in
    let none = ap (λ (l : List FormulaId). all_pieces j (members (map t l))) (sym (none_made c.args.ids.now)) ∙ c.in_ok-pieces.ensures.pieces ∙ ap (option_map (λ v. members (map t v.items))) c.in-None.is in
    subst (λ (f : Tree). IfOk c.add.result (λ id. IsMade (IsId new) (tree new) id f))
    (ap (tree_over t) c.constant.ensures ∙ ap (λ (b : Bool). tree_over t (if b then shape.True else shape.False)) c.eq.ensures ∙ absorbing_made t j ∙ ap (from_pieces j) (sym none)) c.add.ensures.made
