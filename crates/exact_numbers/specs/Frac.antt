-- The fraction rule: which numbers are formed by a sum and a product of fractions, and what the fractions stand for.
use Rattle.std.specs.Prelude.{◌≡◌, ℕ, zero, suc, ℤ, pos, neg_ℤ, ◌+ℤ◌, ◌*ℤ◌, ◌<ℤ◌, int_div, int_lt, Option, Some, option_and_then, if◌then◌else◌}
use Rattle.exact_numbers.specs.Limit.{checked}
use Rattle.exact_numbers.specs.Divides.{IsGcd, gcd_of, lcm_of}

-- a numerator over a denominator
pub record Frac : Type 0 where
  pub numerator : ℤ
  pub denominator : ℤ

-- ---- what is true

-- the denominator is positive
abbrev pub IsProper : Frac → Type 0
IsProper p = pos 0 <ℤ p.denominator

-- p and q stand for one number, by cross multiplication
abbrev pub SameValue : Frac → Frac → Type 0
SameValue p q = p.numerator *ℤ q.denominator ≡ q.numerator *ℤ p.denominator

-- no number above 1 divides numerator and denominator
abbrev pub IsLowest : Frac → Type 0
IsLowest p = IsGcd p.numerator p.denominator (pos 1)

-- a whole number
abbrev pub whole_frac : ℤ → Frac
whole_frac n = record { numerator = n; denominator = pos 1 }

-- the sum, over the product of the denominators
abbrev pub true_sum : Frac → Frac → Frac
true_sum p q = record { numerator = p.numerator *ℤ q.denominator +ℤ q.numerator *ℤ p.denominator; denominator = p.denominator *ℤ q.denominator }

-- the product
abbrev pub true_product : Frac → Frac → Frac
true_product p q = record { numerator = p.numerator *ℤ q.numerator; denominator = p.denominator *ℤ q.denominator }

-- the number with the other sign
abbrev pub negated : Frac → Frac
negated p = record { numerator = neg_ℤ p.numerator; denominator = p.denominator }

-- the fraction upside down, with the sign above
unfoldable pub inverted : Frac → Frac
inverted p =
    if int_lt p.numerator (pos 0) then record { numerator = neg_ℤ p.denominator; denominator = neg_ℤ p.numerator } else record { numerator = p.denominator; denominator = p.numerator }

-- ---- what is formed

infixl 10 ◌>>=◌
-- the second, of what the first gives; nothing where the first gives nothing
abbrev pub ◌>>=◌ : {A B : Type 0} → Option A → (A → Option B) → Option B
o >>= f = option_and_then f o

-- numerator and denominator divided by their greatest common divisor
abbrev pub lowest : ℤ → ℤ → Frac
lowest n d = record { numerator = int_div n (gcd_of n d); denominator = int_div d (gcd_of n d) }

-- the least common multiple of the denominators
abbrev pub multiple : Frac → Frac → ℤ
multiple p q = lcm_of p.denominator q.denominator

-- the numerator of p, multiplied up to a multiple of its denominator
abbrev pub scaled : Frac → ℤ → ℤ
scaled p m = p.numerator *ℤ int_div m p.denominator

-- one step of a sum: both multiplied up to the least common multiple, added, and divided to lowest terms
unfoldable pub sum_step : Frac → Frac → Option Frac
sum_step p q = do
  m ← checked (multiple p q)
  a ← checked (scaled p m)
  b ← checked (scaled q m)
  n ← checked (a +ℤ b)
  Some (lowest n m)

-- one step of a product: numerators and denominators multiplied, and divided to lowest terms
unfoldable pub product_step : Frac → Frac → Option Frac
product_step p q = do
  n ← checked (p.numerator *ℤ q.numerator)
  d ← checked (p.denominator *ℤ q.denominator)
  Some (lowest n d)

-- the repeated product, from 1 on
unfoldable pub power_steps : Frac → ℕ → Option Frac
power_steps p zero = Some (whole_frac (pos 1))
power_steps p (suc n) = power_steps p n >>= λ q. product_step q p

-- the power, over the power of the denominator
unfoldable pub true_power : Frac → ℕ → Frac
true_power p zero = whole_frac (pos 1)
true_power p (suc n) = true_product (true_power p n) p
