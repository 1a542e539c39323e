use Rattle.std.proofs.Common.{take}
use Rattle.clause_theory.specs.Marks.{Leaves}
use Rattle.clause_theory.proofs.failing.Failing.left.Given as goal

-- what is left of the literals so far
abbrev pub invariant-loop-literal : goal.invariant-loop-literal
invariant-loop-literal l = Leaves l.self.signs.items l.left (take l.literal-index l.literals)
