use Rattle.std.proofs.Common.{◌≡◌, ℕ}
use Rattle.written_syntax.specs.CodeTrees.{formula_tree, named_tree, inner_of}
use Rattle.written_syntax.specs.Valued.{matrix_of}
use Rattle.formula_resolving.specs.Connectives.{Opens}
use Rattle.formula_resolving.proofs.reading.prefix.Given as goal

abbrev pub invariant-prefix : goal.invariant-prefix
invariant-prefix l = record {
  opens : (k : ℕ) → Opens l.names l.quantifiers.items (named_tree k l.formula) (named_tree k l.inner);
  matrix : matrix_of (formula_tree l.inner) ≡ matrix_of (formula_tree l.formula);
  inner : inner_of l.inner ≡ inner_of l.formula;
}
