-- Linear congruences: when one is solved, and how its solutions repeat.
use Rattle.std.proofs.Common.{◌≡◌, ap, arith}
use Rattle.std.proofs.Math.IntN.{ℤ, neg_ℤ, ◌+ℤ◌, ◌-ℤ◌, ◌*ℤ◌}
use Rattle.std.specs.Prelude.{◌↔◌}
use Rattle.std.proofs.lemmas.Int.{ints}
use Rattle.exact_numbers.specs.Divides.{Divides, IsGcd}
use Rattle.exact_numbers.specs.Division.{Solves}
use Rattle.exact_numbers.proofs.Ring.{ring, mul_add}
use Rattle.exact_numbers.proofs.Divisibility.{divides_along, divides_trans, divides_mul, divides_mul_left, divides_add, divides_sub}
use Rattle.exact_numbers.proofs.GreatestDivisor.{bezout}

solution_exact : (a c m g k u v : ℤ) → c ≡ g *ℤ k → a *ℤ u +ℤ m *ℤ v ≡ g → a *ℤ (u *ℤ k) -ℤ c ≡ m *ℤ neg_ℤ (v *ℤ k)
solution_exact a c m g k u v ec eg =
    let p = simp ring at (ap (λ z. z *ℤ k) eg) in
    simp ring (omega (arith, ints, p, ec))

-- a x ≡ c modulo m has a solution where the greatest common divisor of a and m divides c
pub solved : {a c m g : ℤ} → IsGcd a m g → Divides g c → Solves a c m
solved {a} {c} {m} {g} p h =
    let b = bezout p in
    record { solution = b.first *ℤ h.quotient; same = record { quotient = neg_ℤ (b.second *ℤ h.quotient); exact = solution_exact a c m g h.quotient b.first b.second h.exact b.sum } }

-- and only there
pub divides_solved : {a c m g : ℤ} → IsGcd a m g → Solves a c m → Divides g c
divides_solved {a} {c} {m} {g} p s =
    let e : a *ℤ s.solution -ℤ (a *ℤ s.solution -ℤ c) ≡ c = omega (arith, ints) in
    divides_along e (divides_sub (divides_mul s.solution p.left) (divides_trans p.right s.same))

shifted : (a x t c : ℤ) → (a *ℤ x +ℤ c) +ℤ a *ℤ t ≡ a *ℤ (x +ℤ t) +ℤ c
shifted a x t c = let e = mul_add a x t in omega (arith, ints)

-- m divides a x + c exactly where it divides a (x + t) + c, for a multiple t of m
pub periodic : (a x t c m : ℤ) → Divides m t → Divides m (a *ℤ x +ℤ c) ↔ Divides m (a *ℤ (x +ℤ t) +ℤ c)
periodic a x t c m h =
    let s = shifted a x t c in
    let e : (a *ℤ (x +ℤ t) +ℤ c) -ℤ a *ℤ t ≡ a *ℤ x +ℤ c = omega (arith, ints) in
    (λ d. divides_along s (divides_add d (divides_mul_left a h)), λ d. divides_along e (divides_sub d (divides_mul_left a h)))
