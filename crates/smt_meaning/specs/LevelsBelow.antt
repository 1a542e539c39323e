-- Names that are those of the levels below one.
use Rattle.std.specs.Prelude.{◌≡◌, ◌<◌, ℕ, List}
use Rattle.std.specs.List.{AllByRecursion}
use Rattle.smt_language.specs.Levels.{level}

-- the name is that of a level below
abbrev pub IsLevelBelow : ℕ → List ℕ → Type 0
IsLevelBelow count x = (n : ℕ) × (n < count) × (x ≡ level n)

-- each name is that of a level below
abbrev pub AreLevelsBelow : ℕ → List (List ℕ) → Type 0
AreLevelsBelow count xs = AllByRecursion (IsLevelBelow count) xs
