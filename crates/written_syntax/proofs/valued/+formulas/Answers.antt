use Rattle.std.proofs.Common.{rules, subst, sym}
use Rattle.std.specs.Ordering.{nat_cmp}
use Rattle.std.specs.Cmp.Lexicographic.{slice_cmp}
use Rattle.std.specs.BTreeSet.{contains}
use Rattle.written_syntax.specs.declared.tree.Formula.TheFolds.{the_lemmas}
use Rattle.language_meaning.specs.Trees.{FormulaTree}
use Rattle.written_syntax.specs.CodeTrees.{formula_tree}
use Rattle.written_syntax.specs.FreeNames.{IsFree}
use Rattle.written_syntax.specs.Valued.{AreAmong, IsUnquantified}
use Rattle.written_syntax.proofs.NameSearch.{scope_among}
use Rattle.written_syntax.proofs.Quantified.{matrix_unquantified}
use Rattle.written_syntax.proofs.valued.+formulas.Goals as goal

pub in_formula-in_matrix-requires : goal.in_formula-in_matrix-requires
in_formula-in_matrix-requires t c = (search (rules, the_lemmas), subst IsUnquantified (sym c.matrix.ensures.matrix) (matrix_unquantified (formula_tree c.args.formula.now)))

pub in_formula-returns-clause-among : goal.in_formula-returns-clause-among
in_formula-returns-clause-among t c =
    scope_among (formula_tree c.args.formula.now) _ _ c.in_ok-opened.opened.items _ c.in_ok-opened.ensures
    (subst (λ (g : FormulaTree). AreAmong (IsFree g) (contains (slice_cmp nat_cmp) c.open_scope.new.names) c.in_ok-valued.valued) c.matrix.ensures.matrix c.in_ok-valued.ensures.among)
