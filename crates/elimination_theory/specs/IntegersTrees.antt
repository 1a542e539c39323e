-- A formula put to a place of the integers, and the guard of the place.
use Rattle.std.specs.Prelude.{ℕ}
use Rattle.logic_meaning.specs.Formula.{And}
use Rattle.logic_meaning.specs.NegationNormal.{both}
use Rattle.logic_meaning.specs.Answer.{Place}
use Rattle.logic_meaning.specs.Replaced.{replaced}
use Rattle.logic_meaning.specs.Tree.{Tree}
use Rattle.logic_meaning.specs.IntegersSubstitution.{integer_atom, integer_guard}

-- a formula with x at the place
abbrev pub integer_substitution : ℕ → Place → Tree → Tree
integer_substitution x s f = replaced (integer_atom x s) (λ y. y) f

-- the place is a whole number, and the formula is true with x at it
abbrev pub guarded_substitution : ℕ → Place → Tree → Tree
guarded_substitution x s f = And (both (integer_guard s) (integer_substitution x s f))
