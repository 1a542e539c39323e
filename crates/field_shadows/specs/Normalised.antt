-- Atoms brought to normal form.
use Rattle.std.specs.Prelude.{◌↔◌, ℕ, List, map}
use Rattle.std.specs.List.{AllByRecursion}
use Rattle.logic_meaning.specs.Context.{Fields}
use Rattle.logic_meaning.specs.Point.{Point, Of}
use Rattle.logic_meaning.specs.Some.{SomeOf, EachOf}
use Rattle.logic_meaning.specs.Atom as meant
use Rattle.logic_meaning.specs.NormalForm.{IsNormal}
use Rattle.normal_atoms.specs.declared.atoms.Atom.{Atom}
use Rattle.normal_atoms.specs.Atoms.{atom_of, IsWellFormed}
use Rattle.case_theory.specs.PutThrough.{AreTrue}
use Rattle.shadow_theory.specs.declared.shadow.Shadow.{Shadow}
use Rattle.shadow_theory.specs.declared.shadow.Shadow.TheVariants.{Never, Atoms, Unknown}

-- each name of the atom stands in some of the others
abbrev pub HasOnlyNamesOf : List meant.Atom → meant.Atom → Type 0
HasOnlyNamesOf us v = (y : ℕ) → meant.Mentions v y → SomeOf (λ (u : meant.Atom). meant.Mentions u y) us

-- the normal atoms vs are true where the atoms us are, and have no other names
pub record AreNormalised (us : List meant.Atom) (vs : List Atom) : Type 0 where
  pub same : (p : Point ℕ) → Of Fields p → AreTrue (map atom_of vs) p ↔ AreTrue us p
  pub names : EachOf (HasOnlyNamesOf us) (map atom_of vs)
  pub normal : EachOf (IsNormal Fields) (map atom_of vs)
  pub well_formed : AllByRecursion IsWellFormed vs

-- the same, or no point meets all, or it is not told
abbrev pub IsNormalised : List meant.Atom → Shadow → Type 0
IsNormalised us Never = (p : Point ℕ) → Of Fields p → ¬ (AreTrue us p)
IsNormalised us (Atoms vs) = AreNormalised us vs.items
IsNormalised us Unknown = Unit {0}
