-- The trees of a list of formulas are those of its members.
use Rattle.std.proofs.Common.{◌≡◌, List, [], ◌∷◌, map, refl, ap, ◌∙◌}
use Rattle.logic_meaning.specs.Formula.{also}
use Rattle.written_syntax.specs.declared.tree.Formula.{Formula}
use Rattle.written_syntax.specs.declared.tree.Formulas.{Formulas}
use Rattle.language_meaning.specs.Holes.{Holed, all_of}
use Rattle.language_meaning.specs.Trees.{FormulaTrees, formulas_of}
use Rattle.written_syntax.specs.CodeTrees.{whole_formula, whole_formulas, formula_tree, formula_trees}

each_tree : (fs : List Formula) → (all_of (map whole_formula fs)).tree ≡ formulas_of (map formula_tree fs)
unfolding formula_tree
each_tree [] = refl
each_tree (f ∷ fs) = ap (also (whole_formula f).tree) (each_tree fs)

pub item_trees : (fs : Formulas) (items : List Formula) → whole_formulas fs ≡ all_of (map whole_formula items) → formula_trees fs ≡ formulas_of (map formula_tree items)
unfolding formula_trees
item_trees fs items e = ap (λ (h : Holed FormulaTrees). h.tree) e ∙ each_tree items
