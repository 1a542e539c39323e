-- What is told of a shadow so far, while atoms are added to it.
use Rattle.std.specs.Prelude.{ℕ, ◌↔◌, List, map}
use Rattle.std.specs.List.{AllByRecursion}
use Rattle.logic_meaning.specs.Context.{Integers}
use Rattle.logic_meaning.specs.Point.{Point, Of}
use Rattle.logic_meaning.specs.Some.{EachOf}
use Rattle.logic_meaning.specs.Atom.{Atom, Says, Mentions}
use Rattle.logic_meaning.specs.NormalForm.{IsNormal}
use Rattle.normal_atoms.specs.Atoms.{atom_of, IsWellFormed}
use Rattle.case_theory.specs.PutThrough.{AreTrue}
use Rattle.shadow_theory.specs.declared.shadow.Shadow.{Shadow}
use Rattle.shadow_theory.specs.declared.shadow.Shadow.TheVariants.{Never, Atoms, Unknown}
use Rattle.shadow_theory.specs.Shadows.{HasNamesOf}

-- something is told
abbrev pub IsTold : Shadow → Type 0
IsTold Never = Unit {0}
IsTold (Atoms vs) = Unit {0}
IsTold Unknown = ⊥

-- what is told is true at the point
abbrev pub IsTrueIn : Shadow → Point ℕ → Type 0
IsTrueIn Never p = ⊥
IsTrueIn (Atoms vs) p = AreTrue (map atom_of vs.items) p
IsTrueIn Unknown p = Unit {0}

-- the atoms have names of the given ones alone, without x
abbrev pub HasNames : ℕ → List Atom → Shadow → Type 0
HasNames x us Never = Unit {0}
HasNames x us (Atoms vs) = EachOf (HasNamesOf x us) (map atom_of vs.items)
HasNames x us Unknown = Unit {0}

-- the atoms are normal and well formed
abbrev pub IsWellMade : Shadow → Type 0
IsWellMade Never = Unit {0}
IsWellMade (Atoms vs) = EachOf (IsNormal Integers) (map atom_of vs.items) × AllByRecursion IsWellFormed vs.items
IsWellMade Unknown = Unit {0}

-- the second shadow tells the first one and the atom
pub record IsWith (old new : Shadow) (a : Atom) : Type 0 where
  pub told : IsTold new → IsTold old
  pub truth : IsTold new → (p : Point ℕ) → Of Integers p → IsTrueIn new p ↔ (IsTrueIn old p × Says a p)
  pub names : (x : ℕ) (us : List Atom) → HasNames x us old → HasNamesOf x us a → HasNames x us new
  pub made : IsWellMade old → IsWellMade new

-- the shadow tells those of the atoms that lack x
pub record AreApart (x : ℕ) (us : List Atom) (shadow : Shadow) : Type 0 where
  pub truth : (p : Point ℕ) → IsTrueIn shadow p ↔ EachOf (λ (u : Atom). ¬ (Mentions u x) → Says u p) us
  pub names : HasNames x us shadow
  pub made : IsWellMade shadow
