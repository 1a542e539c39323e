-- Assumptions: the standing ones and those of a statement, the atoms that they are, and the points where they are true.
use Rattle.std.specs.Prelude.{List, [], ◌∷◌, ◌++◌}
use Rattle.logic_meaning.specs.Atom.{Atom}
use Rattle.logic_meaning.specs.Formula.{One, none, also}
use Rattle.logic_meaning.specs.Some.{EachOf}
use Rattle.logic_meaning.specs.Tree as tree
use Rattle.logic_meaning.specs.Tree.{Tree}
use Rattle.language_meaning.specs.Trees.{FormulaTrees}
use Rattle.language_meaning.specs.Value.{NamedPoint, TrueAt}
use Rattle.language_meaning.specs.Resolving.{resolve, at_names, bound_truth}
use Rattle.program_meaning.specs.State.{State, known}

-- the formula, where it is an atom
abbrev pub atoms_alone : Tree → List Atom
atoms_alone (One a) = a ∷ []
atoms_alone f = []

-- The atoms among the formulas. One that is true by itself says nothing; one that is false by itself says nothing of the others, and is true nowhere. Neither is an
-- atom.
abbrev pub atoms_among : List Tree → List Atom
atoms_among [] = []
atoms_among (t ∷ ts) = atoms_alone t ++ atoms_among ts

-- the formulas, resolved
abbrev pub resolved_all : State → FormulaTrees → List Tree
resolved_all s none = []
resolved_all s (also g gs) = resolve s.context (known s) s.names g ∷ resolved_all s gs

-- the assumptions of a statement as normal atoms: the standing ones, and then its own
abbrev pub assumed : State → FormulaTrees → List Atom
assumed s given = atoms_among (s.standing ++ resolved_all s given)

-- the formulas are true at the point, as they are written
abbrev pub AllTrueAt : State → FormulaTrees → NamedPoint → Type 0
AllTrueAt s none p = Unit {0}
AllTrueAt s (also g gs) p = TrueAt (bound_truth s.context (known s) s.names) s.context g p × AllTrueAt s gs p

-- the assumptions of a statement are true at the point: the standing ones, and its own as they are written
abbrev pub Hold : State → FormulaTrees → NamedPoint → Type 0
Hold s given p = EachOf (λ t. tree.TrueAt s.context t (at_names s.names p)) s.standing × AllTrueAt s given p
