-- The sum of two products, refused exactly where one of the three numbers passes the limit.
use Rattle.std.proofs.Common.{◌≡◌, Result, Ok, Err, inr, Option, Some, None, MatchOption, subst, refl}
use Rattle.std.proofs.Math.IntN.{ℤ, ◌+ℤ◌}
use Rattle.std.specs.Result.{IsErr, IfOk}
use Rattle.exact_numbers.specs.Limit.{InLimit, checked}
use Rattle.exact_numbers.proofs.Limits.{match_checked}
use Rattle.logic_meaning.specs.Terms.{PlaceWithin, PlacePasses}

-- both products are within the limit
pub place_given : (o : Option ℤ) (p q : ℤ) → InLimit p → InLimit q → o ≡ checked (p +ℤ q) → MatchOption o (PlacePasses p q) (λ n. (n ≡ p +ℤ q) × PlaceWithin p q)
place_given None p q hp hq e = record { cause = inr (inr (match_checked None (p +ℤ q) (λ _. Unit {0}) e (λ _. tt))) }
place_given (Some n) p q hp hq e =
    match_checked (Some n) (p +ℤ q) (λ m. (m ≡ p +ℤ q) × PlaceWithin p q) e (λ h. (refl, record { first = hp; second = hq; sum = h }))

-- what a match says at a known variant
pub at_some : {X : Type 0} (o : Option X) (n : X) (P : Type 0) (Q : X → Type 0) → o ≡ Some n → MatchOption o P Q → Q n
at_some o n P Q e h = subst (λ x. MatchOption x P Q) e h

pub at_none : {X : Type 0} (o : Option X) (P : Type 0) (Q : X → Type 0) → o ≡ None → MatchOption o P Q → P
at_none o P Q e h = subst (λ x. MatchOption x P Q) e h

-- what is said of an `Ok` holds of an `Err`
pub ok_unless : {X E : Type 0} (r : Result X E) (P : X → Type 0) → IsErr r → IfOk r P
ok_unless (Ok x) P h = absurd (cc)
ok_unless (Err e) P h = tt
