-- Numbers against the limit.
use Rattle.std.proofs.Common.{◌≡◌, ◌^◌, inl, inr, ap, sym, ◌∙◌, arith, Option, Some, None, MatchOption, subst}
use Rattle.std.proofs.Math.IntN.{ℤ, neg_ℤ}
use Rattle.std.specs.Prelude.{unsigned_abs}
use Rattle.std.proofs.lemmas.Bool.{cases_lt}
use Rattle.std.proofs.lemmas.Bool.Decides.{nat_tests}
use Rattle.std.proofs.lemmas.Int.{ints}
use Rattle.exact_numbers.specs.Limit.{InLimit, PastLimit, checked}

pub checked_in : (z : ℤ) → InLimit z → checked z ≡ Some z
unfolding checked
checked_in z h = grind (arith, nat_tests)

pub checked_past : (z : ℤ) → PastLimit z → checked z ≡ None
unfolding checked
checked_past z h = grind (arith, nat_tests)

-- a split on whether a number is within the limit
pub by_limit : {P : Type 0} (z : ℤ) → (InLimit z → checked z ≡ Some z → P) → (PastLimit z → checked z ≡ None → P) → P
by_limit z inside past = elim (cases_lt (unsigned_abs z) (2 ^ 127)) [ inl h ↦ inside h (checked_in z h) | inr h ↦ past h (checked_past z h) ]

-- what a checked number says
pub checked_some : (z w : ℤ) → checked z ≡ Some w → (z ≡ w) × InLimit z
checked_some z w e = by_limit z (λ h f. let x : Some z ≡ Some w = sym f ∙ e in (cc, h)) (λ h f. let x : None ≡ Some w = sym f ∙ e in absurd (cc))

pub checked_none : (z : ℤ) → checked z ≡ None → PastLimit z
checked_none z e = by_limit z (λ h f. let x : Some z ≡ None = sym f ∙ e in absurd (cc)) (λ h f. h)

pub limit_neg : (z : ℤ) → InLimit z → InLimit (neg_ℤ z)
limit_neg z h = omega (arith, ints)

-- what is refused exactly past the limit is the checked number
pub checked_by : (o : Option ℤ) (z : ℤ) → MatchOption o (PastLimit z) (λ n. (n ≡ z) × InLimit n) → o ≡ checked z
checked_by None z h = sym (checked_past z h)
checked_by (Some n) z h = by_limit z (λ k e. ap Some h.0 ∙ sym e) (λ (k : PastLimit z) e. let f = ap unsigned_abs h.0 in absurd (omega (arith, h.1)))

-- and a checked number is refused exactly past the limit
pub match_checked : (o : Option ℤ) (z : ℤ) (Q : ℤ → Type 0) → o ≡ checked z → (InLimit z → Q z) → MatchOption o (PastLimit z) Q
match_checked o z Q e q =
    by_limit z
    (λ h f. subst (λ (x : Option ℤ). MatchOption x (PastLimit z) Q) (sym (e ∙ f)) (q h))
    (λ h f. subst (λ (x : Option ℤ). MatchOption x (PastLimit z) Q) (sym (e ∙ f)) h)

-- w is the number z, which is within the limit
pub record IsFormed (z w : ℤ) : Type 0 where
  pub same : w ≡ z
  pub formed : checked z ≡ Some z
  pub within : InLimit w

pub formed_by : (z w : ℤ) → Some w ≡ checked z → IsFormed z w
formed_by z w e =
    let c = checked_some z w (sym e) in
    let s : w ≡ z = sym c.0 in
    record { same = s; formed = checked_in z c.1; within = subst (λ (x : ℤ). InLimit x) c.0 c.1 }
