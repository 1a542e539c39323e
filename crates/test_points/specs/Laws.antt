-- What the program's test points of the ordered fields and its substitutions say, as statements that functions promise.
use Rattle.std.specs.Prelude.{◌≡◌, ℕ, ◌↔◌, List, map}
use Rattle.logic_meaning.specs.Context.{Fields}
use Rattle.logic_meaning.specs.Point.{Point, Of}
use Rattle.logic_meaning.specs.Formula.{Ex, One as Single}
use Rattle.logic_meaning.specs.Some.{SomeOf}
use Rattle.logic_meaning.specs.Plain.{IsPlain}
use Rattle.formula_laws.specs.TheoryAtoms.{AtomIn}
use Rattle.logic_meaning.specs.Answer.{Holds, PlaceMentions}
use Rattle.logic_meaning.specs.Tree.{Tree, TrueAt, IsFree}
use Rattle.formula_laws.specs.Equivalence.{InContext}
use Rattle.elimination_theory.specs.AtPlace.{at_place}
use Rattle.elimination_theory.specs.NamesTheorems.{IsNameOf}
use Rattle.logic_meaning.specs.Atoms.{atoms_of}
use Rattle.logic_meaning.specs.FieldsPoints.{field_points_of}
use Rattle.logic_meaning.specs.FieldsSubstitution.{IsFieldPlace}
use Rattle.logic_meaning.specs.Steps.{atom_at}
use Rattle.logic_meaning.specs.declared.side.Side.{Side}
use Rattle.logic_meaning.specs.declared.form.VarId.{VarId}
use Rattle.normal_atoms.specs.Atoms.{atom_of, tree_of}
use Rattle.normal_atoms.specs.declared.atoms.Atom.{Atom}
use Rattle.normal_atoms.specs.declared.atoms.Normal.{Normal}
use Rattle.logic_meaning.specs.NormalForm.{normal_atom}
use Rattle.test_points.specs.declared.points.TestPoint.{TestPoint}
use Rattle.test_points.specs.Points.{place_of}

-- the points are those of x in the atoms, and these are the atoms of f, each once
pub record AreFieldPoints (side : Side) (x : VarId) (atoms : List Atom) (points : List TestPoint) (f : Tree) : Type 0 where
  pub listed : map place_of points ≡ field_points_of side x.number (map atom_of atoms)
  pub formula : map atom_of atoms ≡ atoms_of f

-- ex(x, f) is true exactly where some point of the list makes f true, for f built by and and or
abbrev pub FieldPointsSuffice : Type 0
FieldPointsSuffice = (side : Side) (x : VarId) (atoms : List Atom) (points : List TestPoint) (f : Tree) (p : Point ℕ) → AreFieldPoints side x atoms points f →
    IsPlain f → InContext Fields f → Of Fields p → TrueAt Fields (Ex x.number f) p ↔ SomeOf (λ t. Holds Fields (at_place x.number (place_of t)) f p) points

-- the points have names of f other than x alone
abbrev pub FieldPointsKeepNames : Type 0
FieldPointsKeepNames = (side : Side) (x : VarId) (atoms : List Atom) (points : List TestPoint) (f : Tree) (t : TestPoint) (y : ℕ) → AreFieldPoints side x atoms points f →
    IsPlain f → SomeOf (λ u. u ≡ t) points → PlaceMentions (place_of t) y → IsFree (Ex x.number f) y

-- what is made of an atom at a test point is true exactly where the point makes the atom true
abbrev pub FieldSubstitutionHolds : Type 0
FieldSubstitutionHolds = (a : Atom) (t : TestPoint) (n : Normal) (p : Point ℕ) → AtomIn Fields (atom_of a) → IsFieldPlace (place_of t) →
    tree_of n ≡ atom_at Fields (normal_atom Fields) t.name.number (place_of t) (atom_of a) → Of Fields p →
    Holds Fields (at_place t.name.number (place_of t)) (Single (atom_of a)) p ↔ TrueAt Fields (tree_of n) p

-- and has the atom's other names and those of the point alone
abbrev pub FieldSubstitutionKeepsNames : Type 0
FieldSubstitutionKeepsNames = (a : Atom) (t : TestPoint) (n : Normal) (y : ℕ) → AtomIn Fields (atom_of a) → IsFieldPlace (place_of t) →
    tree_of n ≡ atom_at Fields (normal_atom Fields) t.name.number (place_of t) (atom_of a) → IsFree (tree_of n) y →
    IsNameOf t.name.number (place_of t) (Single (atom_of a)) y
