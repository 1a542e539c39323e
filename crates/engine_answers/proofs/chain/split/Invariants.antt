use Rattle.std.proofs.Common.{◌≡◌, ◌≤◌, ◌+◌, ◌++◌, [], length, reverse, nat_eq}
use Rattle.logic_meaning.specs.Shape.{block_of, matrix_of}
use Rattle.formula_store.specs.Nodes.{tree, IsId}
use Rattle.engine_answers.proofs.Chains.{numbers}
use Rattle.engine_answers.proofs.chain.split.Given as goal

-- the names so far, and those of the chain that goes on behind them
abbrev pub invariant-loop-name : goal.invariant-loop-name
invariant-loop-name l = record {
  is : IsId l.store l.inner;
  below : l.inner.number + length l.names.keys ≤ l.fn.form.number;
  chain : numbers l.names.keys ++ block_of nat_eq (tree l.store l.inner) l.quantifier (reverse (numbers l.names.keys)) ≡ block_of nat_eq (tree l.store l.fn.form) l.quantifier [];
  matrix : matrix_of nat_eq (tree l.store l.inner) l.quantifier (reverse (numbers l.names.keys)) ≡ matrix_of nat_eq (tree l.store l.fn.form) l.quantifier [];
}

abbrev pub decreases-loop-name : goal.decreases-loop-name
decreases-loop-name l = l.inner.number
