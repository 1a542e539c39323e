use Rattle.std.proofs.Common.{◌≡◌, ◌≤◌}
use Rattle.written_syntax.specs.declared.tree.Formula.{size-Formula}
use Rattle.written_syntax.specs.CodeTrees.{formula_tree}
use Rattle.written_syntax.specs.Valued.{matrix_of}
use Rattle.written_syntax.proofs.valued.matrix.Given as goal

abbrev pub invariant-prefix : goal.invariant-prefix
invariant-prefix l = record {
  matrix : matrix_of (formula_tree l.inner) ≡ matrix_of (formula_tree l.formula);
  no_deeper : size-Formula l.inner ≤ size-Formula l.formula;
}
