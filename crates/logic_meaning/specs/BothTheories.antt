-- Substitution and test points, with the theory as an argument.
use Rattle.std.specs.Prelude.{ℕ, List}
use Rattle.logic_meaning.specs.Context.{Context, Fields, Integers}
use Rattle.logic_meaning.specs.Formula.{Yes}
use Rattle.logic_meaning.specs.Atom.{Atom}
use Rattle.logic_meaning.specs.Answer.{Place}
use Rattle.logic_meaning.specs.Tree.{Tree}
use Rattle.logic_meaning.specs.declared.side.Side.{Side}
use Rattle.logic_meaning.specs.FieldsSubstitution.{field_atom, IsFieldPlace}
use Rattle.logic_meaning.specs.FieldsPoints.{field_points_of}
use Rattle.logic_meaning.specs.IntegersSubstitution.{integer_atom, integer_guard}
use Rattle.logic_meaning.specs.IntegersPoints.{integer_points_of}
use Rattle.logic_meaning.specs.IntegerPlace.{IsIntegerPlace}

-- the places of a theory
abbrev pub IsPlaceIn : Context → Place → Type 0
IsPlaceIn Fields s = IsFieldPlace s
IsPlaceIn Integers s = IsIntegerPlace s

-- an atom with x at the place
abbrev pub raw_atom : Context → ℕ → Place → Atom → Tree
raw_atom Fields x s a = field_atom x s a
raw_atom Integers x s a = integer_atom x s a

-- the condition under which the place is a number of the theory
abbrev pub guard_of : Context → Place → Tree
guard_of Fields s = Yes
guard_of Integers s = integer_guard s

-- the test points of x in a list of atoms
abbrev pub test_points : Context → Side → ℕ → List Atom → List Place
test_points Fields side x atoms = field_points_of side x atoms
test_points Integers side x atoms = integer_points_of side x atoms
