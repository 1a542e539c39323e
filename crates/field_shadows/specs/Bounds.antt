-- The bounds that atoms give a name, and the atoms that pairs of them give.
use Rattle.std.specs.Prelude.{◌≡◌, ◌⊎◌, ℕ, pos, ◌<ℤ◌, Bool, true, false, ◌||◌, List, map}
use Rattle.logic_meaning.specs.Form.{Form, coefficient}
use Rattle.logic_meaning.specs.Some.{SomeOf, Among, EachOf}
use Rattle.logic_meaning.specs.Atom as meant
use Rattle.normal_atoms.specs.declared.atoms.Atom.{Atom}
use Rattle.normal_atoms.specs.Atoms.{atom_of, IsWellFormed}
use Rattle.field_shadows.specs.declared.hold.Bound.{Bound}
use Rattle.field_shadows.specs.declared.crossing.Split.{Split}
use Rattle.field_shadows.specs.Signed.{IsCancelled}
pub use Rattle.field_shadows.specs.Holds.{form_of_bound}
use Rattle.field_shadows.specs.Holds.{atom_of_bound, IsRest}

-- an upper bound of the name that one of the atoms is
abbrev pub IsUpper : ℕ → List meant.Atom → Bound → Type 0
IsUpper x us b = Among us (atom_of_bound b) × (pos 0 <ℤ coefficient x (form_of_bound b))

-- a lower one
abbrev pub IsLower : ℕ → List meant.Atom → Bound → Type 0
IsLower x us b = Among us (atom_of_bound b) × (coefficient x (form_of_bound b) <ℤ pos 0)

-- the atom has not the name, or is one of the bounds, or another, and then there are others
abbrev pub IsSeen : ℕ → Split → meant.Atom → Type 0
IsSeen x s u =
    (coefficient x (meant.form_of u) ≡ pos 0) ⊎ (Among (map atom_of_bound s.uppers.items) u ⊎ (Among (map atom_of_bound s.lowers.items) u ⊎ (IsRest u × (s.others ≡ true))))

-- the bounds are those of the atoms, and each atom is seen
pub record IsSplit (x : ℕ) (us : List meant.Atom) (s : Split) : Type 0 where
  pub uppers : EachOf (IsUpper x us) s.uppers.items
  pub lowers : EachOf (IsLower x us) s.lowers.items
  pub seen : EachOf (IsSeen x s) us

-- strict or not
abbrev pub below_zero : Bool → meant.Relation
below_zero true = meant.Below
below_zero false = meant.AtMost

-- the atom says that a sum of multiples of the two bounds, in which the name cancels, is at most 0, or below 0 where one of them is strict
pub record IsJoined (x : ℕ) (upper lower : Bound) (v : Atom) : Type 0 where
  pub form : Form
  pub is : atom_of v ≡ meant.Compare (below_zero (upper.strict || lower.strict)) form
  pub cancelled : IsCancelled x (form_of_bound upper) (form_of_bound lower) form
  pub well_formed : IsWellFormed v

-- the atoms are the first ones and those of the lower bound with each of the upper ones
pub record AddsJoined (x : ℕ) (lower : Bound) (uppers : List Bound) (before after : List Atom) : Type 0 where
  pub kept : (v : Atom) → Among before v → Among after v
  pub each : EachOf (λ a. SomeOf (IsJoined x a lower) after) uppers
  pub from : EachOf (λ v. Among before v ⊎ SomeOf (λ a. IsJoined x a lower v) uppers) after

-- the atoms are those of each lower bound with each upper one
pub record AreJoined (x : ℕ) (uppers lowers : List Bound) (vs : List Atom) : Type 0 where
  pub each : EachOf (λ b. EachOf (λ a. SomeOf (IsJoined x a b) vs) uppers) lowers
  pub from : EachOf (λ v. SomeOf (λ b. SomeOf (λ a. IsJoined x a b v) uppers) lowers) vs
