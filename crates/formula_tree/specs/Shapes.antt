-- The top of a resolved formula over the ids of its members, and the tree that it stands for.
use Rattle.std.specs.Prelude.{List, [], ◌∷◌, map}
use Rattle.std.specs.List.{AllByRecursion}
use Rattle.logic_meaning.specs.Formula.{Yes, No, One, Not, And, Or, Impl, Repl, Equiv, Ex, All}
use Rattle.logic_meaning.specs.Tree.{Tree}
use Rattle.normal_atoms.specs.Atoms.{atom_of, IsWellFormed}
use Rattle.formula_tree.specs.declared.shape.Shape.{Shape}
use Rattle.formula_tree.specs.declared.shape.Shape.TheVariants as shape
use Rattle.formula_tree.specs.Trees.{members}

-- the tree of the shape, where each id stands for its tree
abbrev pub tree_over : {Id : Type 0} → (Id → Tree) → Shape Id → Tree
tree_over tree shape.True = Yes
tree_over tree shape.False = No
tree_over tree (shape.One a) = One (atom_of a)
tree_over tree (shape.And ids) = And (members (map tree ids))
tree_over tree (shape.Or ids) = Or (members (map tree ids))
tree_over tree (shape.Not f) = Not (tree f)
tree_over tree (shape.Impl f g) = Impl (tree f) (tree g)
tree_over tree (shape.Repl f g) = Repl (tree f) (tree g)
tree_over tree (shape.Equiv f g) = Equiv (tree f) (tree g)
tree_over tree (shape.Ex x f) = Ex x.number (tree f)
tree_over tree (shape.All x f) = All x.number (tree f)

-- each id of the shape has P
abbrev pub AllIds : {Id : Type 0} → (Id → Type 0) → Shape Id → Type 0
AllIds P shape.True = Unit {0}
AllIds P shape.False = Unit {0}
AllIds P (shape.One a) = Unit {0}
AllIds P (shape.And ids) = AllByRecursion P ids
AllIds P (shape.Or ids) = AllByRecursion P ids
AllIds P (shape.Not f) = P f
AllIds P (shape.Impl f g) = P f × P g
AllIds P (shape.Repl f g) = P f × P g
AllIds P (shape.Equiv f g) = P f × P g
AllIds P (shape.Ex x f) = P f
AllIds P (shape.All x f) = P f

-- the shape with each id replaced
abbrev pub moved : {Id Id2 : Type 0} → (Id → Id2) → Shape Id → Shape Id2
moved to shape.True = shape.True
moved to shape.False = shape.False
moved to (shape.One a) = shape.One a
moved to (shape.And ids) = shape.And (map to ids)
moved to (shape.Or ids) = shape.Or (map to ids)
moved to (shape.Not f) = shape.Not (to f)
moved to (shape.Impl f g) = shape.Impl (to f) (to g)
moved to (shape.Repl f g) = shape.Repl (to f) (to g)
moved to (shape.Equiv f g) = shape.Equiv (to f) (to g)
moved to (shape.Ex x f) = shape.Ex x (to f)
moved to (shape.All x f) = shape.All x (to f)

-- the ids of the shape's members, in order
abbrev pub ids_of : {Id : Type 0} → Shape Id → List Id
ids_of shape.True = []
ids_of shape.False = []
ids_of (shape.One a) = []
ids_of (shape.And ids) = ids
ids_of (shape.Or ids) = ids
ids_of (shape.Not f) = f ∷ []
ids_of (shape.Impl f g) = f ∷ g ∷ []
ids_of (shape.Repl f g) = f ∷ g ∷ []
ids_of (shape.Equiv f g) = f ∷ g ∷ []
ids_of (shape.Ex x f) = f ∷ []
ids_of (shape.All x f) = f ∷ []

-- the atom of the shape, if it is one, is well formed
abbrev pub IsProperShape : {Id : Type 0} → Shape Id → Type 0
IsProperShape (shape.One a) = IsWellFormed a
IsProperShape _ = Unit {0}
