-- A formula that is shortened.
use Rattle.std.specs.Prelude.{◌≡◌, ◌⊎◌, List, map}
use Rattle.logic_meaning.specs.Atom.{Atom}
use Rattle.logic_meaning.specs.Context.{Context}
use Rattle.logic_meaning.specs.Formula.{Yes, No}
use Rattle.logic_meaning.specs.Tree.{Tree}
use Rattle.logic_meaning.specs.Trees.{IsReduced}
use Rattle.normal_atoms.specs.Atoms.{context_of, atom_of}
use Rattle.formula_tree.specs.declared.shape.Shape.{Shape}
use Rattle.formula_store.specs.declared.id.FormulaId.{FormulaId}
use Rattle.formula_store.specs.Nodes.{tree, IsId}
use Rattle.case_theory.specs.Worked.{IsWorked}
use Rattle.branch_rounds.specs.declared.work.Work.{Work}
use Rattle.shape_theory.specs.Simplifiable.{EquivalentUnder}
use Rattle.text_extents.specs.Extents.{IsNeverLarger}
use Rattle.short_answers.specs.Asking.{IsTidyId}

-- the id is one of the nodes; to its formula f is worked on under the atoms ks, it is reduced under them where f is, and never larger
-- than f
pub record IsShort (c : Context) (ks : List Atom) (f : Tree) (nodes : List (Shape FormulaId)) (id : FormulaId) : Type 0 where
  pub is : IsId nodes id
  pub worked : IsWorked c ks f (tree nodes id)
  pub reduced : IsReduced c f ks → IsReduced c (tree nodes id) ks
  pub never_larger : IsNeverLarger f (tree nodes id)

-- the same under the assumptions of the work
abbrev pub IsShortenedTo : Work → Tree → List (Shape FormulaId) → FormulaId → Type 0
IsShortenedTo w f nodes id = IsShort (context_of w.context) (map atom_of w.assumed.now) f nodes id

-- the formula is true or false itself
abbrev pub IsConstant : Tree → Type 0
IsConstant f = (f ≡ Yes) ⊎ (f ≡ No)

-- the id is one of the nodes, and stands for a tidy formula with the truth of f wherever the assumptions are true
pub record IsSame (w : Work) (f : Tree) (nodes : List (Shape FormulaId)) (id : FormulaId) : Type 0 where
  pub tidy : IsTidyId (context_of w.context) nodes id
  pub same : EquivalentUnder (context_of w.context) (map atom_of w.assumed.now) f (tree nodes id)
