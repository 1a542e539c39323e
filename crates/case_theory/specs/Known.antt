-- The numbers of a point as known values.
use Rattle.std.specs.Prelude.{◌≡◌, ℕ, pos, List, [], ◌∷◌}
use Rattle.exact_numbers.specs.Frac.{lowest}
use Rattle.logic_meaning.specs.Context.{Context}
use Rattle.logic_meaning.specs.Point.{Point, Of}
use Rattle.logic_meaning.specs.Some.{Among}
use Rattle.logic_meaning.specs.Values.{Value}
use Rattle.case_theory.specs.Samples.{named_value, AreKnown}

-- the values of these names at the point
abbrev pub known_at : List ℕ → Point ℕ → List Value
known_at [] p = []
known_at (y ∷ names) p = named_value y (lowest (p.at y) (pos p.below)) ∷ known_at names p

-- They are the point, where each other name is at 0.
abbrev pub KnownAreThePoint : Context → Type 0
KnownAreThePoint c = (names : List ℕ) (p : Point ℕ) → Of c p → ((y : ℕ) → ¬ (Among names y) → p.at y ≡ pos 0) → AreKnown c (known_at names p) p
