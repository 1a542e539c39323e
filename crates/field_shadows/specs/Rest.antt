-- What the atoms with a name say of the other names.
use Rattle.std.specs.Prelude.{◌≡◌, ◌↔◌, ℕ, pos, Bool, List, map}
use Rattle.std.specs.List.{AllByRecursion}
use Rattle.std.specs.Ordering.{int_eq}
use Rattle.formula_laws.specs.TheoryAtoms.{AtomIn}
use Rattle.logic_meaning.specs.Context.{Fields}
use Rattle.logic_meaning.specs.Form.{coefficient}
use Rattle.logic_meaning.specs.Point.{Point, Of}
use Rattle.logic_meaning.specs.Some.{EachOf}
use Rattle.logic_meaning.specs.Atom as meant
use Rattle.normal_atoms.specs.declared.atoms.Atom.{Atom}
use Rattle.normal_atoms.specs.Atoms.{atom_of, IsWellFormed}
use Rattle.case_theory.specs.PutThrough.{AreTrue}
use Rattle.shadow_theory.specs.Shadows.{HasValue, HasNamesOf}

-- the name does not stand in the atom
abbrev pub is_without : ℕ → meant.Atom → Bool
is_without x u = int_eq (coefficient x (meant.form_of u)) (pos 0)

-- each atom without x is true at the point
abbrev pub AreTrueWithout : ℕ → List meant.Atom → Point ℕ → Type 0
AreTrueWithout x us p = EachOf (λ (u : meant.Atom). coefficient x (meant.form_of u) ≡ pos 0 → meant.Says u p) us

-- with the atoms without x they are true exactly where the first ones are with some value of x, and have names of those alone, without x
pub record AreRest (x : ℕ) (us : List meant.Atom) (vs : List Atom) : Type 0 where
  pub exact : (p : Point ℕ) → Of Fields p → (AreTrueWithout x us p × AreTrue (map atom_of vs) p) ↔ HasValue Fields x us p
  pub names : EachOf (HasNamesOf x us) (map atom_of vs)
  pub in_fields : AllByRecursion (λ a. AtomIn Fields (atom_of a)) vs
  pub well_formed : AllByRecursion IsWellFormed vs
