use Rattle.std.proofs.Common.{◌≡◌, map}
use Rattle.logic_meaning.specs.Some.{Among}
use Rattle.formula_laws.specs.StandsOnce.{StandsOnce}
use Rattle.linear_forms.specs.Values.{number_of}
use Rattle.linear_theory.specs.WeakTargets.{exs}
use Rattle.formula_store.specs.Nodes.{tree, IsId}
use Rattle.least_search.proofs.problem.Problem.read.Given as goal

-- the names so far, and the formula behind them
abbrev pub invariant-loop-name : goal.invariant-loop-name
invariant-loop-name l = record {
  id : IsId l.store l.matrix;
  same : tree l.store l.fn.formula ≡ exs (map number_of l.names.items) (tree l.store l.matrix);
  once : StandsOnce (map number_of l.names.items);
  apart : ¬ (Among (map number_of l.names.items) l.target.number);
}

abbrev pub decreases-loop-name : goal.decreases-loop-name
decreases-loop-name l = l.matrix.number
