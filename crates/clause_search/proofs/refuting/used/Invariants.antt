use Rattle.clause_search.specs.Refuting.{AreRowsFor}
use Rattle.clause_search.proofs.refuting.used.Given as goal

-- the rows so far are met where the opposites so far fail
abbrev pub invariant-loop-literal : goal.invariant-loop-literal
invariant-loop-literal l = AreRowsFor l.variables l.refutation.opposites.items l.refutation.constraints.items
