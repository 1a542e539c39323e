-- Formulas that are made with no command inside them.
use Rattle.std.proofs.Common.{◌≡◌, List, [], ◌∷◌, map, refl, ap, ◌∙◌}
use Rattle.std.specs.List.{AllByRecursion}
use Rattle.logic_meaning.specs.Formula.{And, also}
use Rattle.written_syntax.specs.declared.tree.Formula.{Formula}
use Rattle.written_syntax.specs.declared.tree.Formula.TheVariants as formula
use Rattle.written_syntax.specs.declared.tree.Formulas.{Formulas}
use Rattle.language_meaning.specs.Holes.{Holed, alone, whole, over, all_of}
use Rattle.language_meaning.specs.Trees.{FormulaTree, FormulaTrees, formulas_of}
use Rattle.written_syntax.specs.CodeTrees.{whole_formula, whole_formulas, formula_tree, formula_trees, inner_of, inners_of}
use Rattle.written_syntax.proofs.TreeEquations.{formula-And, inner-And}
use Rattle.written_syntax.proofs.Alone.{both_alone}

pub whole_tree : (f : Formula) (t : FormulaTree) → whole_formula f ≡ whole t → formula_tree f ≡ t
unfolding formula_tree
whole_tree f t e = ap (λ (h : Holed FormulaTree). h.tree) e

pub whole_plain : (f : Formula) (t : FormulaTree) → whole_formula f ≡ whole t → inner_of f ≡ alone
unfolding inner_of
whole_plain f t e = ap (λ (h : Holed FormulaTree). h.inner) e

-- one that stands over another
pub over_tree : (g : FormulaTree → FormulaTree) (f h : Formula) → whole_formula f ≡ over g (whole_formula h) → formula_tree f ≡ g (formula_tree h)
unfolding formula_tree
over_tree g f h e = ap (λ (w : Holed FormulaTree). w.tree) e

pub over_plain : (g : FormulaTree → FormulaTree) (f h : Formula) → whole_formula f ≡ over g (whole_formula h) → inner_of h ≡ alone → inner_of f ≡ alone
unfolding inner_of
over_plain g f h e p = ap (λ (w : Holed FormulaTree). w.inner) e ∙ p

abbrev ArePlain : List Formula → Type 0
ArePlain fs = AllByRecursion (λ f. inner_of f ≡ alone) fs

members_trees : (fs : List Formula) → (all_of (map whole_formula fs)).tree ≡ formulas_of (map formula_tree fs)
unfolding formula_tree
members_trees [] = refl
members_trees (f ∷ fs) = ap (also (whole_formula f).tree) (members_trees fs)

members_plain : (fs : List Formula) → ArePlain fs → (all_of (map whole_formula fs)).inner ≡ alone
unfolding inner_of
members_plain [] h = refl
members_plain (f ∷ fs) h = both_alone (whole_formula f).inner (all_of (map whole_formula fs)).inner h.0 (members_plain fs h.1)

-- a conjunction
pub and_tree : (fs : Formulas) (members : List Formula) → whole_formulas fs ≡ all_of (map whole_formula members) → formula_tree (formula.And fs) ≡ And (formulas_of (map formula_tree members))
unfolding formula_trees
and_tree fs members e = formula-And fs ∙ ap And (ap (λ (h : Holed FormulaTrees). h.tree) e ∙ members_trees members)

pub and_plain : (fs : Formulas) (members : List Formula) → whole_formulas fs ≡ all_of (map whole_formula members) → ArePlain members → inner_of (formula.And fs) ≡ alone
unfolding inners_of
and_plain fs members e h = inner-And fs ∙ ap (λ (h : Holed FormulaTrees). h.inner) e ∙ members_plain members h
