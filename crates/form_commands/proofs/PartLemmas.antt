-- The formulas that a command reads, one after the other, and as a list.
use Rattle.std.proofs.Common.{◌⊎◌, inl, inr, ⊎_elim, ◌↔◌, List, [], ◌∷◌, map}
use Rattle.std.specs.List.{AllByRecursion}
use Rattle.logic_meaning.specs.Formula.{none, also}
use Rattle.logic_meaning.specs.Some.{SomeOf}
use Rattle.written_syntax.specs.declared.tree.Formula.{Formula}
use Rattle.language_meaning.specs.Trees.{FormulaTree, FormulaTrees, formulas_of}
use Rattle.written_syntax.specs.CodeTrees.{formula_tree}
use Rattle.form_commands.specs.Parts.{EachFormula}
use Rattle.program_meaning.specs.Causes.{SomeFormula}

module _ (K P : FormulaTree → Type 0) where
  pub some_formula : (Q : FormulaTree → Type 0) → ((g : FormulaTree) → K g → P g → Q g) → (fs : FormulaTrees) → EachFormula K fs → SomeFormula P fs → SomeFormula Q fs
  some_formula Q h none k p = absurd p
  some_formula Q h (also g gs) k (inl p) = inl (h g k.0 p)
  some_formula Q h (also g gs) k (inr p) = inr (some_formula Q h gs k.1 p)

  pub no_formula : ((g : FormulaTree) → K g → ¬ (P g)) → (fs : FormulaTrees) → EachFormula K fs → ¬ (SomeFormula P fs)
  no_formula h none k p = absurd p
  no_formula h (also g gs) k (inl p) = h g k.0 p
  no_formula h (also g gs) k (inr p) = no_formula h gs k.1 p

module _ (P : FormulaTree → Type 0) where
  -- the first of them, and the others as a list
  pub some_listed : (f : FormulaTree) (gs : List Formula) → SomeFormula P (also f (formulas_of (map formula_tree gs))) ↔ (P f ⊎ SomeOf (λ g. P (formula_tree g)) gs)
  some_listed f [] = (λ h. ⊎_elim inl absurd h, λ h. ⊎_elim inl absurd h)
  some_listed f (g ∷ gs) =
      let r = some_listed (formula_tree g) gs in
      (λ h. ⊎_elim inl (λ k. inr (r.0 k)) h, λ h. ⊎_elim inl (λ k. inr (r.1 k)) h)

  pub each_listed : (f : FormulaTree) (gs : List Formula) → EachFormula P (also f (formulas_of (map formula_tree gs))) → P f × AllByRecursion (λ g. P (formula_tree g)) gs
  each_listed f [] h = (h.0, tt)
  each_listed f (g ∷ gs) h = (h.0, each_listed (formula_tree g) gs h.1)

  pub each_of_list : (f : FormulaTree) (gs : List Formula) → P f → AllByRecursion (λ g. P (formula_tree g)) gs → EachFormula P (also f (formulas_of (map formula_tree gs)))
  each_of_list f [] h k = (h, tt)
  each_of_list f (g ∷ gs) h k = (h, each_of_list (formula_tree g) gs k.0 k.1)

  -- all of them as a list
  pub some_given : (gs : List Formula) → SomeFormula P (formulas_of (map formula_tree gs)) ↔ SomeOf (λ g. P (formula_tree g)) gs
  some_given [] = (λ h. h, λ h. h)
  some_given (g ∷ gs) = some_listed (formula_tree g) gs

  pub each_given : (gs : List Formula) → EachFormula P (formulas_of (map formula_tree gs)) → AllByRecursion (λ g. P (formula_tree g)) gs
  each_given [] h = tt
  each_given (g ∷ gs) h = each_listed (formula_tree g) gs h

  pub each_of_given : (gs : List Formula) → AllByRecursion (λ g. P (formula_tree g)) gs → EachFormula P (formulas_of (map formula_tree gs))
  each_of_given [] h = tt
  each_of_given (g ∷ gs) h = each_of_list (formula_tree g) gs h.0 h.1
