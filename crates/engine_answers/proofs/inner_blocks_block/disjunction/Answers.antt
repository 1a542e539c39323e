use Rattle.std.proofs.Common.{◌≡◌, List, [], ◌∷◌, map, refl, ap, sym, subst, ◌∙◌}
use Rattle.std.proofs.lemmas.Result.{IfOk-weaker}
use Rattle.std.specs.List.{AllByRecursion}
use Rattle.logic_meaning.specs.Fold.{fold_list}
use Rattle.logic_meaning.specs.Some.{EachOf}
use Rattle.logic_meaning.specs.Tree.{Tree}
use Rattle.logic_meaning.specs.declared.junction.Junction.TheVariants.{Disjunction}
use Rattle.formula_tree.specs.Makers.{IsMade}
use Rattle.formula_tree.specs.Trees.{members}
use Rattle.formula_store.specs.declared.id.FormulaId.{FormulaId}
use Rattle.formula_store.specs.Nodes.{tree, IsId}
use Rattle.branch_rounds.specs.Branches.{Seen}
use Rattle.engine_answers.proofs.inner_blocks_block.disjunction.Goals as goal

formula_ids : (P : FormulaId → Type 0) (bs : List Seen) → EachOf (λ (b : Seen). P b.formula) bs → AllByRecursion P (map (λ (b : Seen). b.formula) bs)
formula_ids P [] h = tt
formula_ids P (b ∷ bs) h = (h.0, formula_ids P bs h.1)

formula_trees : (t : FormulaId → Tree) (bs : List Seen) → map t (map (λ (b : Seen). b.formula) bs) ≡ map (λ (b : Seen). t b.formula) bs
formula_trees t [] = refl
formula_trees t (b ∷ bs) = ap (◌∷◌ (t b.formula)) (formula_trees t bs)

pub fold-requires : goal.fold-requires
fold-requires c =
    let old = c.args.store.now in
    subst (AllByRecursion (IsId old)) (sym (c.deref.ensures.value ∙ c.in_ok-formulas.ensures)) (formula_ids (IsId old) c.args.branches.now c.requires)

pub returns-clause-made : goal.returns-clause-made
returns-clause-made c =
    let t = tree c.args.store.now in
    let new = c.fold.new.formulas in
    let listed = ap (map t) (c.deref.ensures.value ∙ c.in_ok-formulas.ensures) ∙ formula_trees t c.args.branches.now in
    IfOk-weaker c.fold.result (λ r. IsMade (IsId new) (tree new) r (fold_list Disjunction (members (map t c.deref.result.now))))
    (λ r. IsMade (IsId new) (tree new) r (fold_list Disjunction (members (map (λ (b : Seen). t b.formula) c.args.branches.now))))
    (λ r m. record { is = m.is; same = m.same ∙ ap (λ (ts : List Tree). fold_list Disjunction (members ts)) listed })
    c.fold.ensures.made
