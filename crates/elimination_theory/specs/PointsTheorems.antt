-- What is said of the lists of test points in both theories.
use Rattle.std.specs.Prelude.{◌≡◌, ℕ, List}
use Rattle.logic_meaning.specs.Context.{Context}
use Rattle.logic_meaning.specs.Sorted.{IsSorted}
use Rattle.logic_meaning.specs.Some.{Among, EachOf}
use Rattle.logic_meaning.specs.Atom.{Atom, form_of}
use Rattle.logic_meaning.specs.Answer.{Place, IsSortedPlace}
use Rattle.logic_meaning.specs.Tree.{Tree}
use Rattle.logic_meaning.specs.declared.side.Side.{Side}
use Rattle.formula_laws.specs.StandsOnce.{StandsOnce}
use Rattle.logic_meaning.specs.FieldsPoints.{field_points, field_points_of}
use Rattle.elimination_theory.specs.IntegersPointTrees.{integer_points}
use Rattle.logic_meaning.specs.Atoms.{atoms_in, atoms_of}
use Rattle.logic_meaning.specs.BothTheories.{test_points}

-- each atom and each test point stands once in its list
abbrev pub PointsStandOnce : Type 0
PointsStandOnce = (side : Side) (x : ℕ) (f : Tree) → StandsOnce (atoms_of f) × StandsOnce (field_points side x f) × StandsOnce (integer_points side x f)

-- over the fields the atoms may be taken with repeats, as they stand in the text: the points are the same
abbrev pub AtomsMayRepeat : Type 0
AtomsMayRepeat = (side : Side) (x : ℕ) (f : Tree) → field_points_of side x (atoms_in f) ≡ field_points side x f

-- where the forms of the atoms are sorted, so is that of each test point
abbrev pub PointsAreSorted : Context → Type 0
PointsAreSorted c = (side : Side) (x : ℕ) (atoms : List Atom) (s : Place) → EachOf (λ (a : Atom). IsSorted (form_of a)) atoms → Among (test_points c side x atoms) s → IsSortedPlace s
