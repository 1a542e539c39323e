-- The variables of formulas.
use Rattle.std.specs.Prelude.{◌≡◌, ℕ, List, map}
use Rattle.logic_meaning.specs.Tree.{Tree}
use Rattle.formula_tree.specs.declared.shape.Shape.{Shape}
use Rattle.formula_store.specs.declared.id.FormulaId.{FormulaId}
use Rattle.clause_search.specs.declared.variables.Meaning.TheVariants.{Node}
use Rattle.clause_search.specs.declared.variables.Variable.{Variable}
use Rattle.clause_search.specs.Variables.{StandsFor, AreKept}
use Rattle.clause_search.specs.Nodes.{StandsForNodes}
use Rattle.clause_search.specs.declared.table.Table.{Table}
use Rattle.clause_search.specs.Soundness.{Question, AreSound}
use Rattle.normal_atoms.specs.declared.atoms.Context.{Context}

-- the variables stand for the formulas of the ids, in their order
abbrev pub AreNodes : List FormulaId → List Variable → Type 0
AreNodes ids vs = map (λ (v : Variable). v.meaning) vs ≡ map (λ id. Node id) ids

-- the formulas of the ids have the first places among the variables
abbrev pub HaveNodes : List (Shape FormulaId) → List FormulaId → List Variable → Type 0
HaveNodes nodes ids vs = (f : ℕ → Tree) → StandsFor nodes vs f → StandsForNodes nodes ids f

-- what was sound over the nodes is so still, and each variable stands for what it stood for
pub record Grows (nodes : List (Shape FormulaId)) (context : Context) (old new : Table) : Type 0 where
  pub sound : (q : Question) → q.nodes ≡ nodes → AreSound q context old.variables.items old.clauses.items → AreSound q context new.variables.items new.clauses.items
  pub kept : AreKept old.variables.items new.variables.items
