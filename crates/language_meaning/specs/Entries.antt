-- Entries of a point by the numbers of their names.
use Rattle.std.specs.Prelude.{◌≡◌, ℕ, List}
use Rattle.logic_meaning.specs.Some.{SomeOf}
use Rattle.language_meaning.specs.declared.entries.PointEntry.{PointEntry}

-- some entry has the name with this number
abbrev pub HasEntryAt : (List ℕ → ℕ) → List PointEntry → ℕ → Type 0
HasEntryAt number es n = SomeOf (λ (e : PointEntry). number e.name ≡ n) es
