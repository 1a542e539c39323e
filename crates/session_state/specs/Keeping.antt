-- What the session keeps, as the state that its statements see.
use Rattle.std.specs.Prelude.{◌≡◌, ℕ, List, Some, length, map}
use Rattle.std.specs.List.{AllByRecursion, IsDistinct}
use Rattle.std.specs.Map.{keys_of}
use Rattle.logic_meaning.specs.Context.{Context}
use Rattle.logic_meaning.specs.Every.{Every}
use Rattle.logic_meaning.specs.Numbers.{IsAtomInLimit}
use Rattle.logic_meaning.specs.Some.{EachOf}
use Rattle.logic_meaning.specs.Tree.{Tree}
use Rattle.normal_atoms.specs.Atoms.{context_of}
use Rattle.logic_meaning.specs.NormalForm.{IsNormal}
use Rattle.language_meaning.specs.Names.{IsVariable}
use Rattle.language_meaning.specs.Value.{same_name}
use Rattle.logic_meaning.specs.Bindings.{bound_to}
use Rattle.formula_resolving.specs.BoundIds.{AreIds, trees_bound}
use Rattle.formula_store.specs.declared.id.FormulaId.{FormulaId}
use Rattle.formula_store.specs.Nodes.{tree, IsId}
use Rattle.formula_laws.specs.Within.{IsTreeWithin}
use Rattle.logic_meaning.specs.Members.{HasTwoMembers}
use Rattle.session_state.specs.declared.state.SessionState.{SessionState}
use Rattle.program_meaning.specs.State.{State}
use Rattle.session_state.specs.Trees.{standing_trees}

-- the ids of what is bound, in order
abbrev pub ids_bound : List (List ℕ × FormulaId) → List FormulaId
ids_bound entries = map (λ e. e.1) entries

-- the state that is kept
abbrev pub state_of : SessionState → State
state_of d = record { context = context_of d.context; names = d.names; bound = trees_bound (tree d.store) d.bindings; standing = standing_trees d.standing; answers = map (tree d.store) d.answers.items }

-- a formula as a session has it: its atoms are normal, its names have numbers below n, its lists have two members at least
pub record IsSessionFormula (c : Context) (n : ℕ) (t : Tree) : Type 0 where
  pub normal : Every (IsNormal c) t
  pub within : IsTreeWithin n t
  pub members : HasTwoMembers t

-- No name has two numbers, each is one that a script can write, and each bound formula is such a one, with its numbers within the limit. So is each answer, and each
-- standing assumption is such a one.
pub record IsSound (s : State) : Type 0 where
  pub names_once : IsDistinct same_name s.names
  pub variables : AllByRecursion IsVariable s.names
  pub formulas : (x : List ℕ) (t : Tree) → bound_to s.bound x ≡ Some t → IsSessionFormula s.context (length s.names) t
  pub numbers : (x : List ℕ) (t : Tree) → bound_to s.bound x ≡ Some t → Every IsAtomInLimit t
  pub standing : EachOf (IsSessionFormula s.context (length s.names)) s.standing
  pub answers : EachOf (IsSessionFormula s.context (length s.names)) s.answers
  pub answer_numbers : EachOf (Every IsAtomInLimit) s.answers

-- what is bound are ids of the store, and so are the answers
pub record HasIds (d : SessionState) : Type 0 where
  pub bound : AreIds (IsId d.store) d.bindings
  pub answers : AllByRecursion (IsId d.store) d.answers.items

-- so it is, no name is bound twice, and the state is sound
pub record IsSessionState (d : SessionState) : Type 0 where
  pub ids : HasIds d
  pub bound_once : IsDistinct same_name (keys_of d.bindings)
  pub sound : IsSound (state_of d)
