-- What the program's test points of the integers and its substitutions say, as statements that functions promise.
use Rattle.std.specs.Prelude.{◌≡◌, ℕ, ◌↔◌, List, map}
use Rattle.logic_meaning.specs.Context.{Integers}
use Rattle.logic_meaning.specs.Point.{Point, Of}
use Rattle.logic_meaning.specs.Formula.{Ex, One as Single}
use Rattle.logic_meaning.specs.Some.{SomeOf}
use Rattle.logic_meaning.specs.Every.{Every}
use Rattle.logic_meaning.specs.Plain.{IsPlain}
use Rattle.formula_laws.specs.TheoryAtoms.{AtomIn}
use Rattle.logic_meaning.specs.Answer.{Holds, PlaceMentions}
use Rattle.logic_meaning.specs.Tree.{Tree, TrueAt, IsFree}
use Rattle.formula_laws.specs.Equivalence.{InContext}
use Rattle.logic_meaning.specs.Atoms.{atoms_of}
use Rattle.elimination_theory.specs.AtPlace.{at_place}
use Rattle.logic_meaning.specs.BothTheories.{guard_of}
use Rattle.logic_meaning.specs.IntegersPoints.{integer_points_of}
use Rattle.elimination_theory.specs.IntegersTheorems.{Suits}
use Rattle.logic_meaning.specs.IntegerPlace.{IsIntegerPlace}
use Rattle.elimination_theory.specs.NamesTheorems.{IsNameOf}
use Rattle.logic_meaning.specs.Steps.{atom_at, normalised}
use Rattle.logic_meaning.specs.declared.form.VarId.{VarId}
use Rattle.logic_meaning.specs.NormalForm.{normal_atom}
use Rattle.normal_atoms.specs.Atoms.{atom_of, tree_of}
use Rattle.normal_atoms.specs.declared.atoms.Atom.{Atom}
use Rattle.normal_atoms.specs.declared.atoms.Normal.{Normal}
use Rattle.logic_meaning.specs.declared.side.Side.{Side}
use Rattle.test_points.specs.declared.points.TestPoint.{TestPoint}
use Rattle.test_points.specs.Points.{place_of}

-- the points are those of x in the atoms, and these are the atoms of f, each once
pub record AreIntegerPoints (side : Side) (x : VarId) (atoms : List Atom) (points : List TestPoint) (f : Tree) : Type 0 where
  pub listed : map place_of points ≡ integer_points_of side x.number (map atom_of atoms)
  pub formula : map atom_of atoms ≡ atoms_of f

-- ex(x, f) is true exactly where some point of the list makes f true, for f built by and and or
abbrev pub PointsSuffice : Type 0
PointsSuffice = (side : Side) (x : VarId) (atoms : List Atom) (points : List TestPoint) (f : Tree) (p : Point ℕ) → AreIntegerPoints side x atoms points f →
    IsPlain f → InContext Integers f → Of Integers p → TrueAt Integers (Ex x.number f) p ↔ SomeOf (λ t. Holds Integers (at_place x.number (place_of t)) f p) points

-- each point is a whole number or a residue class whose period is one of every atom of f
abbrev pub PointsSuit : Type 0
PointsSuit = (side : Side) (x : VarId) (atoms : List Atom) (points : List TestPoint) (f : Tree) (t : TestPoint) → AreIntegerPoints side x atoms points f →
    InContext Integers f → SomeOf (λ u. u ≡ t) points → IsIntegerPlace (place_of t) × Every (Suits x.number (place_of t)) f

-- and has names of f other than x alone
abbrev pub PointsKeepNames : Type 0
PointsKeepNames = (side : Side) (x : VarId) (atoms : List Atom) (points : List TestPoint) (f : Tree) (t : TestPoint) (y : ℕ) → AreIntegerPoints side x atoms points f →
    IsPlain f → SomeOf (λ u. u ≡ t) points → PlaceMentions (place_of t) y → IsFree (Ex x.number f) y

-- n and g are what is made of an atom at a test point, and the guard of the point
pub record IsMade (a : Atom) (t : TestPoint) (n g : Normal) : Type 0 where
  pub atom : tree_of n ≡ atom_at Integers (normal_atom Integers) t.name.number (place_of t) (atom_of a)
  pub guard : tree_of g ≡ normalised (normal_atom Integers) (guard_of Integers (place_of t))

-- both are true exactly where the point makes the atom true
abbrev pub SubstitutionHolds : Type 0
SubstitutionHolds = (a : Atom) (t : TestPoint) (n g : Normal) (p : Point ℕ) → AtomIn Integers (atom_of a) → IsIntegerPlace (place_of t) → Suits t.name.number (place_of t) (atom_of a) → IsMade a t n g → Of Integers p →
    Holds Integers (at_place t.name.number (place_of t)) (Single (atom_of a)) p ↔ (TrueAt Integers (tree_of g) p × TrueAt Integers (tree_of n) p)

-- and have the atom's other names and those of the point alone
abbrev pub SubstitutionKeepsNames : Type 0
SubstitutionKeepsNames = (a : Atom) (t : TestPoint) (n g : Normal) (y : ℕ) → AtomIn Integers (atom_of a) → IsIntegerPlace (place_of t) → IsMade a t n g →
    (IsFree (tree_of n) y → IsNameOf t.name.number (place_of t) (Single (atom_of a)) y) × (IsFree (tree_of g) y → PlaceMentions (place_of t) y)
