-- When a step of the fraction rule gives the true value, and when it passes the limit.
use Rattle.std.specs.Prelude.{◌≡◌, ◌<◌, ◌⊎◌, ℕ, ℤ, pos, neg_ℤ, ◌+ℤ◌, ◌*ℤ◌, ◌≤ℤ◌, Some}
use Rattle.exact_numbers.specs.Limit.{InLimit, PastLimit}
use Rattle.exact_numbers.specs.Frac.{Frac, IsProper, SameValue, IsLowest, true_sum, true_product, multiple, scaled, power_steps, true_power}

-- one of 0, 1 and -1
pub record IsUnit (p : Frac) : Type 0 where
  pub whole : p.denominator ≡ pos 1
  pub least : neg_ℤ (pos 1) ≤ℤ p.numerator
  pub most : p.numerator ≤ℤ pos 1

-- some number formed by a step of a sum passes the limit
pub record SumPasses (p q : Frac) : Type 0 where
  pub cause : PastLimit (multiple p q) ⊎ (PastLimit (scaled p (multiple p q)) ⊎ (PastLimit (scaled q (multiple p q)) ⊎ PastLimit (scaled p (multiple p q) +ℤ scaled q (multiple p q))))

-- r is the sum of p and q in lowest terms, and no number formed for it passes the limit
pub record IsExactSum (p q r : Frac) : Type 0 where
  pub multiple_within : InLimit (multiple p q)
  pub first_within : InLimit (scaled p (multiple p q))
  pub second_within : InLimit (scaled q (multiple p q))
  pub sum_within : InLimit (scaled p (multiple p q) +ℤ scaled q (multiple p q))
  pub value : SameValue r (true_sum p q)
  pub lowest_terms : IsLowest r
  pub proper : IsProper r

-- a product formed by a step of a product passes the limit
pub record ProductPasses (p q : Frac) : Type 0 where
  pub cause : PastLimit (p.numerator *ℤ q.numerator) ⊎ PastLimit (p.denominator *ℤ q.denominator)

-- r is the product of p and q in lowest terms, and no number formed for it passes the limit
pub record IsExactProduct (p q r : Frac) : Type 0 where
  pub numerator_within : InLimit (p.numerator *ℤ q.numerator)
  pub denominator_within : InLimit (p.denominator *ℤ q.denominator)
  pub value : SameValue r (true_product p q)
  pub lowest_terms : IsLowest r
  pub proper : IsProper r

-- a step of the repeated product passes the limit
pub record PowerPasses (p : Frac) (n : ℕ) : Type 0 where
  pub steps : ℕ
  pub before : steps < n
  pub power : Frac
  pub formed : power_steps p steps ≡ Some power
  pub passes : ProductPasses power p

-- r is the n-th power of p in lowest terms
pub record IsExactPower (p : Frac) (n : ℕ) (r : Frac) : Type 0 where
  pub value : SameValue r (true_power p n)
  pub lowest_terms : IsLowest r
  pub proper : IsProper r
