-- Rows of literals, and clauses that hold at the points of a theory.
use Rattle.std.specs.Prelude.{ℕ, List, map}
use Rattle.logic_meaning.specs.Context.{Context}
use Rattle.logic_meaning.specs.Point.{Point, Of}
use Rattle.logic_meaning.specs.Some.{EachOf}
use Rattle.logic_meaning.specs.Tree.{Tree}
use Rattle.linear_theory.specs.Meeting.{Meets, MeetsAll}
use Rattle.certificates.specs.declared.constraint.Constraint.{Constraint}
use Rattle.certificates.specs.Constraints.{constraint_of}
use Rattle.formula_tree.specs.declared.shape.Shape.{Shape}
use Rattle.formula_store.specs.declared.id.FormulaId.{FormulaId}
use Rattle.clause_theory.specs.declared.clause.Literal.{Literal}
use Rattle.clause_theory.specs.Turned.{turned}
use Rattle.clause_theory.specs.Clauses.{Fails, Holds}
use Rattle.clause_search.specs.declared.variables.Variable.{Variable}
use Rattle.clause_search.specs.Variables.{IsRowed, StandsFor}

-- a point of a theory, where each variable has its rows and stands for its formula
pub record IsAt (vs : List Variable) (f : ℕ → Tree) (c : Context) (p : Point ℕ) : Type 0 where
  pub nodes : List (Shape FormulaId)
  pub rowed : EachOf (IsRowed c nodes) vs
  pub stands : StandsFor nodes vs f
  pub of_theory : Of c p

-- where the literal's opposite fails, the constraint is met
abbrev pub IsRowFor : List Variable → Literal → Constraint → Type 0
IsRowFor vs l row = (f : ℕ → Tree) (c : Context) (p : Point ℕ) → IsAt vs f c p → Fails f c p (turned l) → Meets p (constraint_of row)

-- where these literals fail, the constraints are met
abbrev pub AreRowsFor : List Variable → List Literal → List Constraint → Type 0
AreRowsFor vs opposites rows = (f : ℕ → Tree) (c : Context) (p : Point ℕ) → IsAt vs f c p → EachOf (Fails f c p) opposites → MeetsAll p (map constraint_of rows)

-- the literals hold as a clause
abbrev pub IsTheoryLaw : List Variable → List Literal → Type 0
IsTheoryLaw vs ls = (f : ℕ → Tree) (c : Context) (p : Point ℕ) → IsAt vs f c p → Holds f c p ls
