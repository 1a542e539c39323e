use Rattle.std.proofs.Common.{◌≡◌, map, drop, option_map}
use Rattle.exact_numbers.specs.Frac.{negated}
use Rattle.exact_numbers.specs.Fraction.{frac_of}
use Rattle.logic_meaning.specs.Calculated.{least_with}
use Rattle.logic_meaning.specs.Bounds.{least}
use Rattle.certificates.proofs.numbers.greatest.Given as goal

-- the least so far and of the negatives left is that of all
abbrev pub invariant-loop-number : goal.invariant-loop-number
invariant-loop-number l = least_with (option_map frac_of l.least) (map negated (map frac_of (drop l.number-index l.numbers))) ≡ least (map negated (map frac_of l.numbers))
