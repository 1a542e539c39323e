-- Points of numbered names as points of names.
use Rattle.std.specs.Prelude.{ℕ, List}
use Rattle.logic_meaning.specs.Point.{Point}
use Rattle.language_meaning.specs.Value.{NamedPoint}
use Rattle.logic_meaning.specs.Names.{place}

-- each name has the value of its number
abbrev pub by_names : List (List ℕ) → Point ℕ → NamedPoint
by_names names p = record { at = λ x. p.at (place names x); below = p.below }
