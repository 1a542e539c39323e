-- What variables of clauses stand for, and rows of it.
use Rattle.std.specs.Prelude.{◌≡◌, ℕ, Bool, true, false, List, Option, Some, slice_get}
use Rattle.logic_meaning.specs.Context.{Context}
use Rattle.logic_meaning.specs.Point.{Point, Of}
use Rattle.logic_meaning.specs.Formula.{One}
use Rattle.logic_meaning.specs.Tree.{Tree, TrueAt}
use Rattle.normal_atoms.specs.Atoms.{atom_of}
use Rattle.formula_tree.specs.declared.shape.Shape.{Shape}
use Rattle.formula_store.specs.declared.id.FormulaId.{FormulaId}
use Rattle.formula_store.specs.Nodes.{tree}
use Rattle.certificates.specs.declared.constraint.Constraint.{Constraint}
use Rattle.atom_pruning.specs.declared.rows.AtomRows.{AtomRows}
use Rattle.atom_pruning.specs.Rows.{MeetsAny}
use Rattle.clause_search.specs.declared.variables.Meaning.{Meaning}
use Rattle.clause_search.specs.declared.variables.Meaning.TheVariants.{Node, Beside}
use Rattle.clause_search.specs.declared.variables.Variable.{Variable}

-- the formula that it stands for
abbrev pub formula : List (Shape FormulaId) → Meaning → Tree
formula nodes (Node id) = tree nodes id
formula nodes (Beside a) = One (atom_of a)

-- the row of the sign: where the formula is true, or where it is not
abbrev pub row_of : AtomRows → Bool → Option Constraint
row_of r true = r.holds
row_of r false = r.fails

-- at each point of the theory: where the formula is not untrue its row is met, and where it is not true the row of its negation is
pub record HasRows (c : Context) (f : Tree) (r : AtomRows) : Type 0 where
  pub holds : (p : Point ℕ) → Of c p → ¬ ¬ (TrueAt c f p) → MeetsAny p r.holds
  pub fails : (p : Point ℕ) → Of c p → ¬ (TrueAt c f p) → MeetsAny p r.fails

-- the rows of the variable are those of what it stands for
abbrev pub IsRowed : Context → List (Shape FormulaId) → Variable → Type 0
IsRowed c nodes v = HasRows c (formula nodes v.meaning) v.rows

-- each variable stands for its formula
abbrev pub StandsFor : List (Shape FormulaId) → List Variable → (ℕ → Tree) → Type 0
StandsFor nodes vs f = (k : ℕ) (v : Variable) → slice_get vs k ≡ Some v → f k ≡ formula nodes v.meaning

-- each variable keeps what it stands for
abbrev pub AreKept : List Variable → List Variable → Type 0
AreKept old new = (nodes : List (Shape FormulaId)) (f : ℕ → Tree) → StandsFor nodes new f → StandsFor nodes old f

-- the variable of this place stands for the formula
abbrev pub StandsAmong : List Variable → ℕ → Tree → Type 0
StandsAmong vs place t = (nodes : List (Shape FormulaId)) (f : ℕ → Tree) → StandsFor nodes vs f → f place ≡ t
