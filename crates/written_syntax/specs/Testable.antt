-- Which formulas have a truth that is calculated at a point.
use Rattle.std.specs.Prelude.{◌≡◌, ℤ, pos}
use Rattle.exact_numbers.specs.Frac.{Frac, SameValue, whole_frac}
use Rattle.language_meaning.specs.Trees.{WrittenAtom, Compare, Cong, Ncong, Bound}
use Rattle.language_meaning.specs.Value.{NamedPoint, value}

-- the value is a whole number other than 0
abbrev pub IsModulus : Frac → Type 0
IsModulus v = (n : ℤ) × (¬ (n ≡ pos 0)) × SameValue v (whole_frac n)

-- the atom is a comparison, or a congruence with such a modulus at the point
abbrev pub IsTestable : NamedPoint → WrittenAtom → Type 0
IsTestable p (Compare rel s t) = Unit {0}
IsTestable p (Cong s t m) = IsModulus (value m p)
IsTestable p (Ncong s t m) = IsModulus (value m p)
IsTestable p (Bound x) = ⊥
