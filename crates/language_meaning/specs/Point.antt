-- What the entries of a point mean, and when they mean no point.
use Rattle.std.specs.Prelude.{◌≡◌, ℕ, ◌⊎◌, ℤ, pos, ◌*ℤ◌, ◌<ℤ◌, List, [], ◌∷◌}
use Rattle.std.specs.List.{AllByRecursion}
use Rattle.exact_numbers.specs.Limit.{PastLimit}
use Rattle.exact_numbers.specs.Divides.{Divides}
use Rattle.exact_numbers.specs.Frac.{Frac, whole_frac, lowest}
use Rattle.logic_meaning.specs.Point as meaning
use Rattle.logic_meaning.specs.Some.{SomeOf}
use Rattle.language_meaning.specs.declared.tree.Literal.{Literal}
use Rattle.language_meaning.specs.declared.tree.Literal.TheVariants.{Fits, Past}
use Rattle.language_meaning.specs.declared.entries.PointEntry.{PointEntry}

-- some entry has this name
abbrev pub HasEntry : List ℕ → List PointEntry → Type 0
HasEntry name = SomeOf (λ (e : PointEntry). e.name ≡ name)

-- a name stands twice
abbrev pub NamesTwice : List PointEntry → Type 0
NamesTwice [] = ⊥
NamesTwice (e ∷ es) = HasEntry e.name es ⊎ NamesTwice es

-- the denominator is 0
abbrev pub IsZeroBelow : PointEntry → Type 0
IsZeroBelow e = e.below ≡ Fits (pos 0)

-- a literal is above the limit
abbrev pub IsPast : PointEntry → Type 0
IsPast e = (e.above ≡ Past) ⊎ (e.below ≡ Past)

-- the value is a fraction of two literals within the limit, and not whole
abbrev pub IsBroken : PointEntry → Type 0
IsBroken e = (above : ℤ) × (below : ℤ) × (e.above ≡ Fits above) × (e.below ≡ Fits below) × (¬ (Divides below above))

-- The value in lowest terms. An entry with a literal above the limit has no value here, and counts as 1.
abbrev pub lowest_terms : Literal → Literal → Frac
lowest_terms (Fits above) (Fits below) = lowest above below
lowest_terms (Fits above) Past = whole_frac (pos 1)
lowest_terms Past below = whole_frac (pos 1)

-- the denominator of the value in lowest terms
abbrev pub lowest_below : PointEntry → ℤ
lowest_below e = (lowest_terms e.above e.below).denominator

-- the denominator of each entry in lowest terms divides the number
abbrev pub IsCommonMultiple : List PointEntry → ℤ → Type 0
IsCommonMultiple es n = AllByRecursion (λ e. Divides (lowest_below e) n) es

-- the least common multiple of the denominators in lowest terms
pub record IsLeastDenominator (es : List PointEntry) (d : ℤ) : Type 0 where
  pub positive : pos 0 <ℤ d
  pub common : IsCommonMultiple es d
  pub least : (n : ℤ) → IsCommonMultiple es n → Divides d n

-- the value of the entry is this number over the denominator
pub record IsScaled (denominator : ℤ) (e : PointEntry) (number : ℤ) : Type 0 where
  pub above : ℤ
  pub below : ℤ
  pub fits_above : e.above ≡ Fits above
  pub fits_below : e.below ≡ Fits below
  pub same : number *ℤ below ≡ above *ℤ denominator

-- The point that the entries mean: over the least common denominator, each entry's name has the entry's value, and
-- each other name has 0.
pub record IsPointOf (es : List PointEntry) (p : meaning.Point (List ℕ)) : Type 0 where
  pub least : IsLeastDenominator es (pos p.below)
  pub each : AllByRecursion (λ e. IsScaled (pos p.below) e (p.at e.name)) es
  pub others : (name : List ℕ) → ¬ (HasEntry name es) → p.at name ≡ pos 0

-- a literal or the least common denominator passes the limit
abbrev pub DenominatorPasses : List PointEntry → Type 0
DenominatorPasses es = SomeOf IsPast es ⊎ ((d : ℤ) × IsLeastDenominator es d × PastLimit d)

-- a number over the least common denominator passes the limit
abbrev pub NumberPasses : List PointEntry → Type 0
NumberPasses es = (d : ℤ) × IsLeastDenominator es d × SomeOf (λ e. (number : ℤ) × IsScaled d e number × PastLimit number) es

-- a literal, the least common denominator or a number over it passes the limit
abbrev pub PassesLimit : List PointEntry → Type 0
PassesLimit es = DenominatorPasses es ⊎ NumberPasses es
