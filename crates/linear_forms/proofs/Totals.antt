-- Sums of terms, and the multiples of one name.
use Rattle.std.proofs.Common.{◌≡◌, ℕ, Bool, true, false, List, [], ◌∷◌, ◌++◌, refl, arith, nat_eq, if◌then◌else◌, eq-eqb}
use Rattle.std.proofs.Math.IntN.{ℤ, pos, ◌+ℤ◌, ◌*ℤ◌}
use Rattle.std.proofs.lemmas.Int.{ints}
use Rattle.std.proofs.lemmas.Bool.Decides.{nat_tests}
use Rattle.exact_numbers.proofs.Ring.{mul_zero, mul_one}
use Rattle.logic_meaning.specs.Form.{Term, total, multiple}

-- 1 at x, and 0 elsewhere
abbrev pub one_at : ℕ → ℕ → ℤ
one_at x y = if nat_eq x y then pos 1 else pos 0

-- the multiple of x is the sum where x is 1 and all others are 0
pub multiple_total : (x : ℕ) (ts : List Term) → multiple x ts ≡ total ts (one_at x)
multiple_total x [] = refl
multiple_total x (t ∷ ts) = go (nat_eq x t.name) (multiple_total x ts)
  where
    go : (b : Bool) → multiple x ts ≡ total ts (one_at x) → (if b then t.times +ℤ multiple x ts else multiple x ts) ≡ t.times *ℤ (if b then pos 1 else pos 0) +ℤ total ts (one_at x)
    go true h = let o = mul_one t.times in omega (arith, ints)
    go false h = let z = mul_zero t.times in omega (arith, ints)

pub one_at_same : (x : ℕ) → one_at x x ≡ pos 1
one_at_same x = let e = eq-eqb x x refl in rw e refl

pub one_at_other : (x y : ℕ) → ¬ (x ≡ y) → one_at x y ≡ pos 0
one_at_other x y n = grind (arith, nat_tests)

pub total_push : (ts : List Term) (t : Term) (at : ℕ → ℤ) → total (ts ++ t ∷ []) at ≡ total ts at +ℤ t.times *ℤ at t.name
total_push [] t at = omega (arith, ints)
total_push (s ∷ ts) t at = let h = total_push ts t at in omega (arith, ints)
