-- Places that suit a formula, and what is put in at them, in both theories.
use Rattle.std.specs.Prelude.{ℕ}
use Rattle.logic_meaning.specs.Context.{Context, Fields, Integers}
use Rattle.logic_meaning.specs.Every.{Every}
use Rattle.logic_meaning.specs.Answer.{Place}
use Rattle.logic_meaning.specs.Tree.{Tree}
use Rattle.logic_meaning.specs.FieldsSubstitution.{IsFieldPlace}
use Rattle.elimination_theory.specs.FieldsTrees.{field_substitution}
use Rattle.elimination_theory.specs.IntegersTrees.{guarded_substitution}
use Rattle.elimination_theory.specs.IntegersTheorems.{Suits}
use Rattle.logic_meaning.specs.IntegerPlace.{IsIntegerPlace}

-- the places at which substitution into the formula is exact: over the integers the period is one of each congruence
abbrev pub IsPlaceFor : Context → ℕ → Place → Tree → Type 0
IsPlaceFor Fields x s f = IsFieldPlace s
IsPlaceFor Integers x s f = IsIntegerPlace s × Every (Suits x s) f

-- a formula with x at the place, over the integers with its guard
abbrev pub substitution : Context → ℕ → Place → Tree → Tree
substitution Fields x s f = field_substitution x s f
substitution Integers x s f = guarded_substitution x s f
