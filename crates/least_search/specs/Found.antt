-- What is found of the target of a resolved problem.
use Rattle.std.specs.Prelude.{ℕ, Some, unsigned_abs, nat_eq}
use Rattle.exact_numbers.specs.Frac.{Frac}
use Rattle.exact_numbers.specs.Fraction.{frac_of}
use Rattle.logic_meaning.specs.Context.{Fields}
use Rattle.logic_meaning.specs.LeastFraction.{IsLeastFraction}
use Rattle.logic_meaning.specs.Point.{Point, move}
use Rattle.logic_meaning.specs.Target.{IsInfeasible, IsUnbounded}
use Rattle.logic_meaning.specs.Tree.{Tree}
use Rattle.logic_meaning.specs.Values.{origin}
use Rattle.sample_reference.specs.Seen.{values_of}
use Rattle.sample_reference.specs.TrueSample.{IsTrueSample}
use Rattle.program_meaning.specs.Targets.{TargetAnswer, Infeasible, Unbounded, Attained}
use Rattle.least_search.specs.declared.found.Found.{Found}
use Rattle.least_search.specs.declared.found.Found.TheVariants as found

-- what was found
abbrev pub found_of : Found → TargetAnswer
found_of found.Infeasible = Infeasible
found_of found.Unbounded = Unbounded
found_of (found.Attained least values) = Attained (frac_of least) (values_of values.items)

-- the point at which the name has the value, and all others 0
abbrev pub at_value : ℕ → Frac → Point ℕ
at_value z v = move nat_eq origin z v.numerator (unsigned_abs v.denominator)

-- what it says of the resolved problem
abbrev pub IsTargetFound : ℕ → Tree → TargetAnswer → Type 0
IsTargetFound z problem Infeasible = IsInfeasible z problem origin
IsTargetFound z problem Unbounded = IsUnbounded z problem origin
IsTargetFound z problem (Attained least values) = IsLeastFraction z problem least × IsTrueSample Fields problem (at_value z least) (Some values)
