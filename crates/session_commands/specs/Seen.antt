-- What is seen of a session between statements: the formulas that it keeps, each once, what is bound to names by its place among them, what is assumed, and its
-- limits; and the state that this stands for.
use Rattle.std.specs.Prelude.{ℕ, List, []}
use Rattle.normal_atoms.specs.declared.atoms.Context.{Context}
use Rattle.normal_atoms.specs.Atoms.{context_of}
use Rattle.formula_tree.specs.declared.shape.Shape.{Shape}
use Rattle.formula_resolving.specs.BoundIds.{trees_bound}
use Rattle.formula_store.specs.declared.id.FormulaId.{FormulaId}
use Rattle.formula_store.specs.Nodes.{tree}
use Rattle.form_commands.specs.FromEngineAnswers.{Limits}
use Rattle.program_meaning.specs.State.{State}
use Rattle.session_state.specs.declared.assumption.Assumption.{Assumption}
use Rattle.session_state.specs.Trees.{standing_trees}

pub record Seen : Type 0 where
  pub context : Context
  pub names : List (List ℕ)
  pub bindings : List (List ℕ × FormulaId)
  pub standing : List Assumption
  pub formulas : List (Shape FormulaId)
  pub limits : Limits

abbrev pub state_in : Seen → State
state_in s = record { context = context_of s.context; names = s.names; bound = trees_bound (tree s.formulas) s.bindings; standing = standing_trees s.standing; answers = [] }
