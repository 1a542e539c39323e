use Rattle.std.proofs.Common.{◌+◌, ◌*◌, drop, map}
use Rattle.std.specs.Ordering.{nat_cmp}
use Rattle.std.specs.Cmp.Lexicographic.{slice_cmp}
use Rattle.std.specs.BTreeSet.{contains, IsSameSet}
use Rattle.language_meaning.specs.Trees.{formulas_of}
use Rattle.written_syntax.specs.CodeTrees.{formula_tree}
use Rattle.written_syntax.specs.Valued.{AreFree}
use Rattle.written_syntax.proofs.NameSearch.{SearchedTo}
use Rattle.written_syntax.proofs.valued.+formulas.Given as goal

abbrev pub invariant-in_formulas-loop-formula : goal.invariant-in_formulas-loop-formula
invariant-in_formulas-loop-formula l = record {
  searched : SearchedTo (AreFree (formulas_of (map formula_tree l.formulas))) (AreFree (formulas_of (map formula_tree (drop l.formula-index l.formulas)))) (contains (slice_cmp nat_cmp) l.initial.names);
  kept : IsSameSet (slice_cmp nat_cmp) l.initial.names l.names;
}

-- the depth of the formula, with the order of the three functions at one depth
abbrev pub decreases-in_formula : goal.decreases-in_formula
decreases-in_formula l = 3 * goal.size-in_formula l + 1

abbrev pub decreases-in_matrix : goal.decreases-in_matrix
decreases-in_matrix l = 3 * goal.size-in_matrix l

abbrev pub decreases-in_formulas : goal.decreases-in_formulas
decreases-in_formulas l = 3 * goal.size-in_formulas l + 2
