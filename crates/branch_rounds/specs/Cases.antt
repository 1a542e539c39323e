-- The branches of a leading block, with no name left, as cases of its formula.
use Rattle.std.specs.Prelude.{◌≡◌, List, map, reverse}
use Rattle.logic_meaning.specs.Every.{Every}
use Rattle.logic_meaning.specs.Atom.{Atom}
use Rattle.logic_meaning.specs.Tree.{Tree}
use Rattle.logic_meaning.specs.Cases.{Case, case_matrix, case_names}
use Rattle.normal_atoms.specs.Atoms.{context_of, atom_of}
use Rattle.logic_meaning.specs.NormalForm.{IsNormal}
use Rattle.formula_tree.specs.declared.shape.Shape.{Shape}
use Rattle.formula_store.specs.declared.id.FormulaId.{FormulaId}
use Rattle.formula_store.specs.Nodes.{tree}
use Rattle.test_points.specs.Points.{answer_of}
use Rattle.case_theory.specs.CaseTree.{without_all, IsCaseTree}
use Rattle.case_theory.specs.Worked.{IsWorked}
use Rattle.branch_rounds.specs.declared.work.Work.{Work}
use Rattle.branch_rounds.specs.Branches.{Seen, AreBranchesOf}

-- what is left is the guard, and the points are the answers, the last one first
abbrev pub case_of : List (Shape FormulaId) → Seen → Case
case_of nodes b = record { guard = tree nodes b.formula; answers = map answer_of (reverse b.points) }

-- Of the leading block of f over a matrix that was worked on under the members of the theory without its names, the branches are
-- cases as elimination promises them.
abbrev pub BranchesAreCases : Work → Type 0
BranchesAreCases w = (theory : List Atom) (f : Tree) (nodes : List (Shape FormulaId)) (matrix : FormulaId) (bs : List Seen) → Every (IsNormal (context_of w.context)) f →
    map atom_of w.assumed.now ≡ without_all (case_names f) theory → IsWorked (context_of w.context) (map atom_of w.assumed.now) (case_matrix f) (tree nodes matrix) →
    AreBranchesOf w (tree nodes matrix) (case_names f) nodes bs → IsCaseTree (context_of w.context) theory f (tree nodes matrix) (map (case_of nodes) bs)
