-- What the program's answers say.
use Rattle.std.specs.Prelude.{ℕ, Bool, true, List, filter, Option, Some, None}
use Rattle.exact_numbers.specs.Frac.{Frac}
use Rattle.exact_numbers.specs.Fraction.{frac_of}
use Rattle.logic_meaning.specs.Atom.{Atom}
use Rattle.logic_meaning.specs.Tree.{Tree}
use Rattle.logic_meaning.specs.Calculated.{is_less, critical_values, least_with}
use Rattle.linear_theory.specs.Answer as answer
use Rattle.linear_opt.specs.declared.least.Least.{Least}
use Rattle.linear_opt.specs.declared.least.Least.TheVariants.{Infeasible, Unbounded, At}

-- the answer
abbrev pub found_of : Least → answer.Found
found_of Infeasible = answer.Infeasible
found_of Unbounded = answer.Unbounded
found_of (At number) = answer.At (frac_of number)

-- the least of a number that may be there and of the critical values of the atoms at which the formula is true
abbrev pub least_from : ℕ → Tree → Option Frac → List Atom → Option Frac
least_from z f least atoms = least_with least (filter (λ v. answer.truth_by (answer.is_true_at z v) f) (critical_values z atoms))

-- the number is less than one that may be there
abbrev pub is_before : Frac → Option Frac → Bool
is_before number None = true
is_before number (Some least) = is_less number least
