-- What holds of a solver while it works: at each point of the theory where the formula is true, all its clauses hold.
use Rattle.std.specs.Prelude.{◌≡◌, ℕ, List}
use Rattle.logic_meaning.specs.Context.{Context as Theory}
use Rattle.logic_meaning.specs.Point.{Point, Of}
use Rattle.logic_meaning.specs.Some.{EachOf}
use Rattle.logic_meaning.specs.Tree.{Tree, TrueAt}
use Rattle.normal_atoms.specs.declared.atoms.Context.{Context}
use Rattle.normal_atoms.specs.Atoms.{context_of}
use Rattle.formula_tree.specs.declared.shape.Shape.{Shape}
use Rattle.formula_store.specs.declared.id.FormulaId.{FormulaId}
use Rattle.formula_store.specs.Nodes.{tree}
use Rattle.clause_theory.specs.declared.clause.Literal.{Literal}
use Rattle.clause_theory.specs.declared.clause.Clause.{Clause}
use Rattle.clause_theory.specs.Clauses.{Holds}
use Rattle.clause_search.specs.declared.variables.Variable.{Variable}
use Rattle.clause_search.specs.Variables.{IsRowed, StandsFor}

-- whether a formula is true at some point of a theory
pub record Question : Type 0 where
  pub theory : Theory
  pub nodes : List (Shape FormulaId)
  pub root : FormulaId

-- whether the formula of the id is
abbrev pub question_of : Context → List (Shape FormulaId) → FormulaId → Question
question_of context nodes root = record { theory = context_of context; nodes = nodes; root = root }

-- it is true at the point, which is one of the theory
pub record IsMet (q : Question) (p : Point ℕ) : Type 0 where
  pub of_theory : Of q.theory p
  pub true_at : TrueAt q.theory (tree q.nodes q.root) p

-- the literals hold as a clause wherever it is
abbrev pub IsLaw : Question → List Variable → List Literal → Type 0
IsLaw q vs ls = (f : ℕ → Tree) → StandsFor q.nodes vs f → (p : Point ℕ) → IsMet q p → Holds f q.theory p ls

-- the theory is that of the question, the variables have their rows, and each of the clauses holds wherever the question's formula is true
pub record AreSound (q : Question) (context : Context) (vs : List Variable) (clauses : List Clause) : Type 0 where
  pub theory : q.theory ≡ context_of context
  pub rowed : EachOf (IsRowed q.theory q.nodes) vs
  pub laws : EachOf (λ k. IsLaw q vs k.literals.items) clauses

-- it is true at no point of the theory
abbrev pub IsUnmet : Question → Type 0
IsUnmet q = (p : Point ℕ) → ¬ (IsMet q p)
