-- The literal of the opposite.
use Rattle.std.specs.Prelude.{not}
use Rattle.clause_theory.specs.declared.clause.Literal.{Literal}

-- the same variable with the other sign
abbrev pub turned : Literal → Literal
turned l = record { variable = l.variable; holds = not l.holds }
