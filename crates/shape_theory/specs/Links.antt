-- Names of a formula and what they have become: each is used, and no two have become one.
use Rattle.std.specs.Prelude.{◌≡◌, ◌⊎◌, ℕ, ◌+◌, ◌<◌, ◌≤◌, true}
use Rattle.logic_meaning.specs.Atom.{Atom, Mentions}
use Rattle.logic_meaning.specs.Renaming.{Chosen}

-- the name is an old one that is taken, or a new one that was made
abbrev pub Used : ℕ → Chosen → ℕ → Type 0
Used count s v = ((v < count) × (s.taken v ≡ true)) ⊎ ((count ≤ v) × (v < count + s.made))

-- no two names of the atom become one
abbrev pub IsOneToOne : (ℕ → ℕ) → Atom → Type 0
IsOneToOne now a = (y z : ℕ) → Mentions a y → Mentions a z → now y ≡ now z → y ≡ z

-- each free name has become a used one, and no two have become one
pub record Links (count : ℕ) (Free : ℕ → Type 0) (now : ℕ → ℕ) (s : Chosen) : Type 0 where
  pub used : (z : ℕ) → Free z → Used count s (now z)
  pub one : (y z : ℕ) → Free y → Free z → now y ≡ now z → y ≡ z
