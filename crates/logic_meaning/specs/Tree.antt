-- Resolved formulas: formulas over atoms of linear forms, whose names are numbers.
use Rattle.std.specs.Prelude.{ℕ, nat_eq, List, map}
use Rattle.logic_meaning.specs.Context.{Context}
use Rattle.logic_meaning.specs.Point.{Point, move}
use Rattle.logic_meaning.specs.Form.{Term}
use Rattle.logic_meaning.specs.Sorted.{gathered}
use Rattle.logic_meaning.specs.Same.{same_atom}
use Rattle.logic_meaning.specs.Sizes.{free_names, distinct_count}
use Rattle.logic_meaning.specs.Formula.{Formula, Formulas}
use Rattle.logic_meaning.specs.Truth.{True}
use Rattle.logic_meaning.specs.Atom.{Atom, Says, Mentions, form_of}
use Rattle.logic_meaning.specs.Every.{Free}

-- a formula over atoms of linear forms, whose names are numbers
abbrev pub Tree : Type 0
Tree = Formula Atom ℕ

-- a list of such formulas
abbrev pub Trees : Type 0
Trees = Formulas Atom ℕ

-- the tree is true at the point
abbrev pub TrueAt : Context → Tree → Point ℕ → Type 0
TrueAt c f p = True Says (move nat_eq) c f p

-- the name is free in the tree
abbrev pub IsFree : Tree → ℕ → Type 0
IsFree f x = Free Mentions f x

-- the names that stand in an atom, in rising order
abbrev pub atom_names : Atom → List ℕ
atom_names a = map (λ (t : Term). t.name) (gathered (form_of a)).terms

-- the free names of the tree, each once, in the order of the first place
abbrev pub tree_names : Tree → List ℕ
tree_names f = free_names atom_names nat_eq f

-- how many different subtrees the tree has
abbrev pub tree_distinct : Tree → ℕ
tree_distinct f = distinct_count same_atom nat_eq f
