-- Resolved formulas as trees of plain data: what the code's values stand for, with no memory in it.
use Rattle.std.specs.Prelude.{List, [], ◌∷◌}
use Rattle.logic_meaning.specs.Formula.{Yes, No, One, Not, And, Or, Impl, Repl, Equiv, Ex, All, none, also}
use Rattle.logic_meaning.specs.Tree as meaning
use Rattle.normal_atoms.specs.Atoms.{atom_of}
use Rattle.formula_tree.specs.declared.tree.Tree as code
use Rattle.formula_tree.specs.declared.tree.Tree.TheOpen as layer
use Rattle.formula_tree.specs.declared.tree.Trees as codes

-- the members of a list, as the members of a conjunction or a disjunction
abbrev pub members : List meaning.Tree → meaning.Trees
members [] = none
members (f ∷ fs) = also f (members fs)

-- one layer of a resolved formula, with the trees of its parts in their places
abbrev pub tree_step : layer.Tree-F meaning.Tree meaning.Trees → meaning.Tree
tree_step layer.True = Yes
tree_step layer.False = No
tree_step (layer.One a) = One (atom_of a)
tree_step (layer.And fs) = And fs
tree_step (layer.Or fs) = Or fs
tree_step (layer.Not f) = Not f.value
tree_step (layer.Impl f g) = Impl f.value g.value
tree_step (layer.Repl f g) = Repl f.value g.value
tree_step (layer.Equiv f g) = Equiv f.value g.value
tree_step (layer.Ex x f) = Ex x.number f.value
tree_step (layer.All x f) = All x.number f.value

-- the trees of a list whose members have theirs in their places
abbrev pub trees_step : layer.Trees-F meaning.Tree meaning.Trees → meaning.Trees
trees_step fs = members fs.list.items

-- the tree of a resolved formula
unfoldable pub tree_of : code.Tree → meaning.Tree
tree_of = code.fold-Tree meaning.Tree meaning.Trees tree_step trees_step

-- the trees of a list of resolved formulas
unfoldable pub trees_of : codes.Trees → meaning.Trees
trees_of = codes.fold-Trees meaning.Tree meaning.Trees tree_step trees_step
