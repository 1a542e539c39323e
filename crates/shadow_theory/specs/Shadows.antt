-- What atoms say of the other names where one name may have any value.
use Rattle.std.specs.Prelude.{◌≡◌, ◌↔◌, ℕ, ℤ, nat_eq, List, map}
use Rattle.std.specs.List.{AllByRecursion}
use Rattle.logic_meaning.specs.Context.{Context, Allowed}
use Rattle.logic_meaning.specs.Point.{Point, Of, move}
use Rattle.logic_meaning.specs.Some.{SomeOf, EachOf}
use Rattle.logic_meaning.specs.Atom.{Atom, Mentions}
use Rattle.logic_meaning.specs.NormalForm.{IsNormal}
use Rattle.normal_atoms.specs.Atoms.{atom_of, IsWellFormed}
use Rattle.case_theory.specs.PutThrough.{AreTrue}
use Rattle.shadow_theory.specs.declared.shadow.Shadow.{Shadow}
use Rattle.shadow_theory.specs.declared.shadow.Shadow.TheVariants.{Never, Atoms, Unknown}

-- with some value of the name the atoms are true at the point
abbrev pub HasValue : Context → ℕ → List Atom → Point ℕ → Type 0
HasValue c x us p = (k : ℤ) × (m : ℕ) × Allowed c m × AreTrue us (move nat_eq p x k m)

-- each name of the atom is another than x, and stands in some of the others
abbrev pub HasNamesOf : ℕ → List Atom → Atom → Type 0
HasNamesOf x us v = (y : ℕ) → Mentions v y → ¬ (y ≡ x) × SomeOf (λ (u : Atom). Mentions u y) us

-- Where the given atoms are true, these are true exactly where the first ones are with some value of x. They are normal, and have names
-- of the first ones alone, without x.
pub record IsShadow (c : Context) (given : List Atom) (x : ℕ) (us vs : List Atom) : Type 0 where
  pub exact : (p : Point ℕ) → Of c p → AreTrue given p → AreTrue vs p ↔ HasValue c x us p
  pub names : EachOf (HasNamesOf x us) vs
  pub normal : EachOf (IsNormal c) vs

-- the atoms are a shadow, and well formed
pub record AreShadow (c : Context) (given : List Atom) (x : ℕ) (us : List Atom) (vs : List (Rattle.normal_atoms.specs.declared.atoms.Atom.Atom)) : Type 0 where
  pub is : IsShadow c given x us (map atom_of vs)
  pub well_formed : AllByRecursion IsWellFormed vs

-- what is told of the shadow: that no value of x makes the atoms true where the given ones are, or the shadow, or nothing
abbrev pub IsShadowOf : Context → List Atom → ℕ → List Atom → Shadow → Type 0
IsShadowOf c given x us Never = (p : Point ℕ) → Of c p → AreTrue given p → ¬ (HasValue c x us p)
IsShadowOf c given x us (Atoms vs) = AreShadow c given x us vs.items
IsShadowOf c given x us Unknown = Unit {0}
