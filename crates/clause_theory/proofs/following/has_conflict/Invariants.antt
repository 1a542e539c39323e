use Rattle.std.proofs.Common.{List}
use Rattle.clause_theory.specs.declared.clause.Literal.{Literal}
use Rattle.clause_theory.specs.Marks.{AreSound}
use Rattle.clause_theory.proofs.following.has_conflict.Given as goal

-- the marks stay sound
abbrev pub invariant-loop-hint : goal.invariant-loop-hint
invariant-loop-hint l = (ls : List Literal) → AreSound l.clauses ls l.fn.failing.signs.items → AreSound l.clauses ls l.failing.signs.items
