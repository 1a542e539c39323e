-- With which atom of a list a new one merges.
use Rattle.std.specs.Prelude.{◌≡◌, ℕ, ◌<◌, Option, Some, None, List, length, take, get_or}
use Rattle.logic_meaning.specs.Some.{EachOf}
use Rattle.logic_meaning.specs.Context.{Context}
use Rattle.logic_meaning.specs.Atom.{Atom}
use Rattle.logic_meaning.specs.declared.junction.Junction.{Junction}
use Rattle.normal_atoms.specs.Atoms.{atom_of, IsWellFormed}
use Rattle.normal_atoms.specs.declared.answers.Merged.{Merged}
use Rattle.normal_atoms.specs.declared.answers.Merged.TheVariants.{One, Keep}
use Rattle.normal_atoms.specs.Computed.{IsNormalWithin, Kept, merged, merging_of}

-- none of the atoms merges with a
abbrev pub AreApart : Context → Junction → Atom → List Atom → Type 0
AreApart c j a us = EachOf (λ b. merged c j b a ≡ Kept) us

-- the atom, if it is one, is well formed and normal, and its constant within the limit
abbrev pub IsNormalMerged : Context → Merged → Type 0
IsNormalMerged c (One e) = IsWellFormed e × IsNormalWithin c (atom_of e)
IsNormalMerged c m = Unit {0}

-- the first that merges with a, and what the two become
pub record IsMergedAt (c : Context) (j : Junction) (a : Atom) (us : List Atom) (place : ℕ) (m : Merged) : Type 0 where
  pub within : place < length us
  pub apart : AreApart c j a (take place us)
  pub become : merging_of m ≡ merged c j (get_or us place a) a
  pub merges : ¬ (m ≡ Keep)
  pub normal : IsNormalMerged c m

abbrev pub IsPartner : Context → Junction → Atom → List Atom → Option (ℕ × Merged) → Type 0
IsPartner c j a us None = AreApart c j a us
IsPartner c j a us (Some p) = IsMergedAt c j a us p.0 p.1
