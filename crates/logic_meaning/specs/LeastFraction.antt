-- The least value as a fraction.
use Rattle.std.specs.Prelude.{ℕ, unsigned_abs}
use Rattle.exact_numbers.specs.Frac.{Frac, IsProper, IsLowest}
use Rattle.logic_meaning.specs.Tree.{Tree}
use Rattle.logic_meaning.specs.Values.{origin}
use Rattle.logic_meaning.specs.Target.{IsLeast}

-- the fraction, in lowest terms, is the least value
pub record IsLeastFraction (z : ℕ) (f : Tree) (v : Frac) : Type 0 where
  pub proper : IsProper v
  pub lowest : IsLowest v
  pub least : IsLeast z f origin v.numerator (unsigned_abs v.denominator)
