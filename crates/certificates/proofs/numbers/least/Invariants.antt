use Rattle.std.proofs.Common.{◌≡◌, map, drop, option_map}
use Rattle.exact_numbers.specs.Fraction.{frac_of}
use Rattle.logic_meaning.specs.Calculated.{least_with}
use Rattle.logic_meaning.specs.Bounds.{least}
use Rattle.certificates.proofs.numbers.least.Given as goal

-- the least so far and of the numbers left is that of all
abbrev pub invariant-loop-number : goal.invariant-loop-number
invariant-loop-number l = least_with (option_map frac_of l.least) (map frac_of (drop l.number-index l.numbers)) ≡ least (map frac_of l.numbers)
