-- The fraction rule on the program's fractions.
use Rattle.std.proofs.Common.{ℕ, ◌≡◌, Option, Some, None, MatchOption}
use Rattle.std.specs.Prelude.{option_map}
use Rattle.exact_numbers.specs.declared.fraction.Fraction.{Fraction}
use Rattle.exact_numbers.specs.Frac.{Frac, IsProper, sum_step, product_step, power_steps}
use Rattle.exact_numbers.specs.ExactSteps.{SumPasses, IsExactSum, ProductPasses, IsExactProduct, PowerPasses, IsExactPower}
use Rattle.exact_numbers.specs.Fraction.{frac_of}
use Rattle.exact_numbers.proofs.FractionRule.{sum_outcome, product_outcome}
use Rattle.exact_numbers.proofs.Powers.{power_outcome}

pub sum_given : (o : Option Fraction) (p q : Frac) → IsProper p → IsProper q → option_map frac_of o ≡ sum_step p q → MatchOption o (SumPasses p q) (λ r. IsExactSum p q (frac_of r))
sum_given None p q hp hq e = sum_outcome p q None hp hq e
sum_given (Some r) p q hp hq e = sum_outcome p q (Some (frac_of r)) hp hq e

pub product_given : (o : Option Fraction) (p q : Frac) → IsProper p → IsProper q → option_map frac_of o ≡ product_step p q → MatchOption o (ProductPasses p q) (λ r. IsExactProduct p q (frac_of r))
product_given None p q hp hq e = product_outcome p q None hp hq e
product_given (Some r) p q hp hq e = product_outcome p q (Some (frac_of r)) hp hq e

pub power_given : (o : Option Fraction) (p : Frac) (n : ℕ) → IsProper p → option_map frac_of o ≡ power_steps p n → MatchOption o (PowerPasses p n) (λ r. IsExactPower p n (frac_of r))
power_given None p n hp e = power_outcome p n None hp e
power_given (Some r) p n hp e = power_outcome p n (Some (frac_of r)) hp e
