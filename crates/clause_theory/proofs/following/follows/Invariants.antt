use Rattle.clause_theory.specs.Marks.{AreSound}
use Rattle.clause_theory.proofs.following.follows.Given as goal

-- the literals that are marked are some of those that are to fail
abbrev pub invariant-loop-literal : goal.invariant-loop-literal
invariant-loop-literal l = AreSound l.clauses l.literals l.failing.signs.items
