-- What names stand for in a sound state: answers, and what is bound.
use Rattle.std.proofs.Common.{◌≡◌, ℕ, suc, List, [], ◌∷◌, ◌++◌, Bool, true, false, Some, cond, subst, length}
use Rattle.logic_meaning.specs.Every.{Every}
use Rattle.logic_meaning.specs.Numbers.{IsAtomInLimit}
use Rattle.logic_meaning.specs.Some.{EachOf}
use Rattle.logic_meaning.specs.Tree.{Tree}
use Rattle.language_meaning.specs.Holes.{inner_name}
use Rattle.language_meaning.specs.Value.{same_name}
use Rattle.logic_meaning.specs.Bindings.{bound_to}
use Rattle.language_meaning.specs.Resolving.{BoundTrees}
use Rattle.language_meaning.specs.Answers.{answers_from}
use Rattle.program_meaning.specs.State.{State, known}
use Rattle.session_state.specs.Keeping.{IsSound}
use Rattle.session_state.proofs.SoundLemmas.{AreSessionFormulas}

module _ (P : Tree → Type 0) where
  first_or : (u : Tree) (rest : BoundTrees) (x : List ℕ) (t : Tree) (b : Bool) → P u → (bound_to rest x ≡ Some t → P t) → cond b (Some u) (bound_to rest x) ≡ Some t → P t
  first_or u rest x t true p later e = let same : u ≡ t = cc in subst P same p
  first_or u rest x t false p later e = later e

  found : (k : ℕ) (ts : List Tree) (bound : BoundTrees) → EachOf P ts → ((x : List ℕ) (t : Tree) → bound_to bound x ≡ Some t → P t) → (x : List ℕ) (t : Tree) → bound_to (answers_from k ts ++ bound) x ≡ Some t → P t
  found k [] bound each there x t e = there x t e
  found k (u ∷ us) bound each there x t e = first_or u (answers_from (suc k) us ++ bound) x t (same_name x (inner_name k)) each.0 (found (suc k) us bound each.1 there x t) e

module _ (s : State) (h : IsSound s) where
  pub known_formulas : AreSessionFormulas s.context (length s.names) (known s)
  known_formulas = found _ 0 s.answers s.bound h.answers h.formulas

  pub known_numbers : (x : List ℕ) (t : Tree) → bound_to (known s) x ≡ Some t → Every IsAtomInLimit t
  known_numbers = found (Every IsAtomInLimit) 0 s.answers s.bound h.answer_numbers h.numbers
