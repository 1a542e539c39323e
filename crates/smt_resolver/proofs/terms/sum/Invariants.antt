use Rattle.std.proofs.Common.{◌≤◌, List, drop}
use Rattle.logic_meaning.specs.Context.{Context}
use Rattle.language_meaning.specs.Trees.{TermTree}
use Rattle.smt_resolver.specs.Values.{AreTermValues}
use Rattle.smt_resolver.proofs.TermLaws.{SumState}
use Rattle.smt_resolver.proofs.terms.sum.Given as goal

abbrev pub invariant-loop-term : goal.invariant-loop-term
invariant-loop-term l = record {
  state : (c : Context) (ts : List TermTree) → AreTermValues c l.limit ts l.terms → SumState c l.limit ts (drop l.term-index l.terms) l.nodes l.total;
  within : l.nodes ≤ l.limit;
}
