use Rattle.std.proofs.Common.{◌≡◌, ◌+◌, ◌*◌, drop, map}
use Rattle.logic_meaning.specs.Sizes.{nodes, all_nodes}
use Rattle.logic_meaning.specs.Replaced.{all_replaced}
use Rattle.language_meaning.specs.Trees.{formulas_of}
use Rattle.written_syntax.specs.CodeTrees.{formula_tree}
use Rattle.language_meaning.specs.Causes.{atom_in_place}
use Rattle.logic_meaning.specs.Quantified.{some_quantifier}
use Rattle.formula_store.specs.Nodes.{tree}
use Rattle.formula_resolving.specs.BoundIds.{answered_trees}
use Rattle.free_names.proofs.Named.{members_named, members_count}
use Rattle.free_names.proofs.quantified.+quantified.Given as goal

-- none of the formulas so far has a quantifier, and their answers are taken
abbrev pub invariant-in_formulas-loop-formula : goal.invariant-in_formulas-loop-formula
invariant-in_formulas-loop-formula l = record {
  found : some_quantifier (all_replaced (atom_in_place (answered_trees (tree l.store) l.inner l.bound)) (λ x. 0) (members_named l.taken (drop l.formula-index l.formulas)))
      ≡ some_quantifier (all_replaced (atom_in_place (answered_trees (tree l.store) l.inner l.bound)) (λ x. 0) (members_named l.initial.taken l.formulas));
  taken : l.taken + members_count (drop l.formula-index l.formulas) ≡ l.initial.taken + members_count l.formulas;
}

-- the nodes of the formula, with the order of the functions at one number
abbrev pub decreases-in_formula : goal.decreases-in_formula
decreases-in_formula l = 2 * nodes (formula_tree l.formula.now)

abbrev pub decreases-in_pair : goal.decreases-in_pair
decreases-in_pair l = 2 * (nodes (formula_tree l.left.now) + nodes (formula_tree l.right.now)) + 1

abbrev pub decreases-in_formulas : goal.decreases-in_formulas
decreases-in_formulas l = 2 * all_nodes (formulas_of (map formula_tree l.formulas.now)) + 1
