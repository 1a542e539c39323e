use Rattle.std.proofs.Common.{◌+◌}
use Rattle.std.specs.Prelude.{unsigned_abs}
use Rattle.exact_numbers.proofs.divisors.+compare_fractions.Given as goal

abbrev pub decreases-compare_fractions : goal.decreases-compare_fractions
decreases-compare_fractions l = unsigned_abs l.b + unsigned_abs l.d
