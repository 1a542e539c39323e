use Rattle.std.proofs.Common.{◌≡◌, ◌+◌, ◌*◌, drop, map}
use Rattle.std.specs.Ordering.{nat_cmp}
use Rattle.std.specs.BTreeSet.{contains, IsSameSet}
use Rattle.logic_meaning.specs.Sizes.{nodes, all_nodes}
use Rattle.language_meaning.specs.Trees.{formulas_of}
use Rattle.written_syntax.specs.CodeTrees.{formula_tree}
use Rattle.free_names.specs.Missing.{IsSound}
use Rattle.free_names.specs.Places.{AreFreeHere, in_scope}
use Rattle.free_names.proofs.Named.{members_named, members_count}
use Rattle.free_names.proofs.Search.{SearchedTo}
use Rattle.free_names.proofs.valued.+formulas.Given as goal

abbrev pub invariant-in_formulas-loop-formula : goal.invariant-in_formulas-loop-formula
invariant-in_formulas-loop-formula l = record {
  searched : SearchedTo (AreFreeHere l.around.store.now l.around.inner.now l.around.bound.now l.around.names.now (members_named l.initial.taken l.formulas))
      (AreFreeHere l.around.store.now l.around.inner.now l.around.bound.now l.around.names.now (members_named l.taken (drop l.formula-index l.formulas))) (in_scope l.around.valued.now l.initial.opened);
  taken : l.taken + members_count (drop l.formula-index l.formulas) ≡ l.initial.taken + members_count l.formulas;
  kept : IsSameSet nat_cmp l.initial.opened l.opened;
  sound : IsSound l.around.store.now (contains nat_cmp l.around.valued.now) l.table;
}

-- the nodes of the formula, with the order of the four functions at one number
abbrev pub decreases-in_formula : goal.decreases-in_formula
decreases-in_formula l = 3 * nodes (formula_tree l.formula.now) + 1

abbrev pub decreases-in_matrix : goal.decreases-in_matrix
decreases-in_matrix l = 3 * nodes (formula_tree l.formula.now)

abbrev pub decreases-in_pair : goal.decreases-in_pair
decreases-in_pair l = 3 * (nodes (formula_tree l.left.now) + nodes (formula_tree l.right.now)) + 2

abbrev pub decreases-in_formulas : goal.decreases-in_formulas
decreases-in_formulas l = 3 * all_nodes (formulas_of (map formula_tree l.formulas.now)) + 2
