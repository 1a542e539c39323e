use Rattle.std.proofs.Common.{◌+◌, ◌*◌, ◌≤◌, drop, map}
use Rattle.logic_meaning.specs.Sizes.{nodes, all_nodes}
use Rattle.language_meaning.specs.Trees.{formulas_of}
use Rattle.written_syntax.specs.CodeTrees.{formula_tree}
use Rattle.language_meaning.specs.Resolving.{formula_variables, all_variables}
use Rattle.formula_resolving.specs.Numbering.{Grows}
use Rattle.formula_resolving.proofs.Numbered.{Remains}
use Rattle.formula_resolving.proofs.numbering.+formulas.Given as goal

abbrev pub invariant-number_formula-prefix : goal.invariant-number_formula-prefix
invariant-number_formula-prefix g l = record {
  remains : Remains l.bound (formula_variables (formula_tree l.formula)) (formula_variables (formula_tree l.inner)) l.initial.names l.names l.met;
  grown : Grows l.initial.names l.names;
  smaller : nodes (formula_tree l.inner) ≤ nodes (formula_tree l.formula);
}

abbrev pub invariant-number_formulas-loop-formula : goal.invariant-number_formulas-loop-formula
invariant-number_formulas-loop-formula g l = record {
  remains : Remains l.bound (all_variables (formulas_of (map formula_tree l.formulas))) (all_variables (formulas_of (map formula_tree (drop l.formula-index l.formulas)))) l.initial.names l.names l.met;
  grown : Grows l.initial.names l.names;
}

-- the nodes of the formula, with the order of the three functions at one number
abbrev pub decreases-number_formula : goal.decreases-number_formula
decreases-number_formula g l = 3 * nodes (formula_tree l.formula.now) + 1

abbrev pub decreases-number_matrix : goal.decreases-number_matrix
decreases-number_matrix g l = 3 * nodes (formula_tree l.formula.now)

abbrev pub decreases-number_formulas : goal.decreases-number_formulas
decreases-number_formulas g l = 3 * all_nodes (formulas_of (map formula_tree l.formulas.now)) + 2
