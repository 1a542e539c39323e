-- Multipliers that show that no point meets some constraints (Farkas 1902).
use Rattle.std.specs.Prelude.{◌≡◌, ◌⊎◌, ℕ, ℤ, pos, ◌<ℤ◌, ◌≤ℤ◌, List, [], ◌∷◌}
use Rattle.logic_meaning.specs.Form.{Form, coefficient, combine}
use Rattle.logic_meaning.specs.Terms.{CombinePasses}
use Rattle.logic_meaning.specs.Constraints.{Bound, Equal, AtMost, Below, Constraint}

-- the form 0
abbrev pub nothing : Form
nothing = record { terms = []; constant = pos 0 }

-- the multiple of a constraint may be added to those of the others: that of an equation always, and that of an inequality where it isn't negative
abbrev pub IsAllowed : Bound → ℤ → Type 0
IsAllowed Equal m = Unit {0}
IsAllowed AtMost m = pos 0 ≤ℤ m
IsAllowed Below m = pos 0 ≤ℤ m

-- one multiplier for each constraint, and each is allowed
abbrev pub AreAllowed : List Constraint → List ℤ → Type 0
AreAllowed [] [] = Unit {0}
AreAllowed [] (m ∷ ms) = ⊥
AreAllowed (c ∷ cs) [] = ⊥
AreAllowed (c ∷ cs) (m ∷ ms) = IsAllowed c.bound m × AreAllowed cs ms

-- the form with the multiples of the constraints' forms added, in their order
unfoldable pub sum_from : Form → List Constraint → List ℤ → Form
sum_from s [] ms = s
sum_from s (c ∷ cs) [] = s
sum_from s (c ∷ cs) (m ∷ ms) = sum_from (combine (pos 1) s m c.form) cs ms

-- the constraint is strict and its multiplier positive
abbrev pub IsStrictly : Bound → ℤ → Type 0
IsStrictly Equal m = ⊥
IsStrictly AtMost m = ⊥
IsStrictly Below m = pos 0 <ℤ m

-- some strict constraint has a positive multiplier
abbrev pub SomeStrict : List Constraint → List ℤ → Type 0
SomeStrict [] ms = ⊥
SomeStrict (c ∷ cs) [] = ⊥
SomeStrict (c ∷ cs) (m ∷ ms) = IsStrictly c.bound m ⊎ SomeStrict cs ms

-- The multipliers prove that no point meets the constraints: there is one for each, and each is allowed; the sum of the multiplied forms has no names; and its constant
-- is positive, or 0 where some strict constraint has a positive multiplier.
pub record IsFarkas (cs : List Constraint) (ms : List ℤ) : Type 0 where
  pub allowed : AreAllowed cs ms
  pub no_names : (x : ℕ) → coefficient x (sum_from nothing cs ms) ≡ pos 0
  pub constant : (pos 0 <ℤ (sum_from nothing cs ms).constant) ⊎ (((sum_from nothing cs ms).constant ≡ pos 0) × SomeStrict cs ms)

-- a number passes the limit where the multiples are added to the form in the order of the constraints
abbrev pub SumPasses : Form → List Constraint → List ℤ → Type 0
SumPasses s [] ms = ⊥
SumPasses s (c ∷ cs) [] = ⊥
SumPasses s (c ∷ cs) (m ∷ ms) = CombinePasses (pos 1) s m c.form ⊎ SumPasses (combine (pos 1) s m c.form) cs ms
