-- What the program tells of a calculation that may give nothing.
use Rattle.std.specs.Prelude.{◌≡◌, ℤ, true, List, Option, Some, None, Result, Ok, Err}
use Rattle.exact_numbers.specs.declared.fraction.Fraction.{Fraction}
use Rattle.exact_numbers.specs.Frac.{Frac}
use Rattle.exact_numbers.specs.Fraction.{frac_of}
use Rattle.linear_forms.specs.Values.{Numbers, point_of}
use Rattle.test_points.specs.declared.error.PointError.{PointError}
use Rattle.test_points.specs.declared.error.PointError.TheVariants.{Overflow, Nodes, Memory}
use Rattle.logic_meaning.specs.Values.{Value, numerators_within, common_denominator, point_over}

-- the error says that the calculation gives nothing, or says nothing
abbrev pub Lacks : {A : Type 0} → PointError → Option A → Type 0
Lacks Overflow o = o ≡ None
Lacks Nodes o = ⊥
Lacks Memory o = Unit {0}

-- the fraction is what the calculation gives, or the error says why there is none
abbrev pub Tells : Result Fraction PointError → Option Frac → Type 0
Tells (Ok v) o = o ≡ Some (frac_of v)
Tells (Err e) o = Lacks e o

-- the numbers are the values over the denominator, and within the limit
pub record AreOver (d : ℤ) (values : List Value) (v : Numbers) : Type 0 where
  pub point : point_of v ≡ point_over d values
  pub denominator : v.denominator ≡ d
  pub within : numerators_within d values ≡ true

-- the same over the least common denominator
pub record IsPointOver (values : List Value) (v : Numbers) : Type 0 where
  pub denominator : common_denominator values ≡ Some v.denominator
  pub point : point_of v ≡ point_over v.denominator values
