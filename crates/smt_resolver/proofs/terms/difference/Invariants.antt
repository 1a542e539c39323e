use Rattle.std.proofs.Common.{List, drop}
use Rattle.logic_meaning.specs.Context.{Context}
use Rattle.language_meaning.specs.Trees.{TermTree}
use Rattle.smt_resolver.specs.Values.{IsTermValue, AreTermValues}
use Rattle.smt_resolver.proofs.TermLaws.{DifferenceState}
use Rattle.smt_resolver.proofs.terms.difference.Given as goal

abbrev pub invariant-loop-other : goal.invariant-loop-other
invariant-loop-other l = (c : Context) (t : TermTree) (ts : List TermTree) → IsTermValue c l.limit t l.first → AreTermValues c l.limit ts l.others → DifferenceState c l.limit t ts l.terms.items (drop l.other-index l.others)
