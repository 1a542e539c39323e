-- A name put away by an equation.
use Rattle.std.specs.Prelude.{◌≡◌, ◌⊎◌, ℕ, pos, List}
use Rattle.logic_meaning.specs.Form.{Form, coefficient}
use Rattle.logic_meaning.specs.Some.{SomeOf, EachOf}
use Rattle.logic_meaning.specs.Atom as meant
use Rattle.normal_atoms.specs.declared.atoms.Atom.{Atom}
use Rattle.normal_atoms.specs.Atoms.{atom_of, IsWellFormed}
use Rattle.field_shadows.specs.Signed.{IsCancelled}
pub use Rattle.field_shadows.specs.Holds.{IsEquation}

-- v is the comparison u with x put away by the form g, which is 0
pub record IsPutAway (x : ℕ) (g : Form) (u : meant.Atom) (v : Atom) : Type 0 where
  pub relation : meant.Relation
  pub form : Form
  pub new_form : Form
  pub given : u ≡ meant.Compare relation form
  pub is : atom_of v ≡ meant.Compare relation new_form
  pub cancelled : IsCancelled x form g new_form
  pub well_formed : IsWellFormed v

-- so are the atoms that have the name
pub record ArePutAway (x : ℕ) (g : Form) (us : List meant.Atom) (vs : List Atom) : Type 0 where
  pub each : EachOf (λ u. (coefficient x (meant.form_of u) ≡ pos 0) ⊎ SomeOf (IsPutAway x g u) vs) us
  pub from : EachOf (λ v. SomeOf (λ u. IsPutAway x g u v) us) vs
