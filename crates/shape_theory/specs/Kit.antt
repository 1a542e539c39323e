-- What simplification has to know of atoms.
use Rattle.std.specs.Prelude.{ℕ, Bool, Option}
use Rattle.logic_meaning.specs.declared.junction.Junction.{Junction}
use Rattle.normal_atoms.specs.Computed.{Merging}

-- the functions of atoms
pub record Kit (A : Type 0) : Type 0 where
  pub merge : Junction → A → A → Merging A
  -- whether the second atom is true, or false, where the first is true
  pub decides : A → A → Option Bool
  -- the atom of the opposite truth
  pub opposite : A → A
  -- the name stands in the atom
  pub contains : A → ℕ → Bool
  pub same : A → A → Bool
