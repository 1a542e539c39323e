-- The names of a command about constraints: the session where its variables have their numbers, and what is said there.
use Rattle.std.proofs.Common.{◌≡◌, inr, ℕ, List, [], ◌++◌, Bool, None, sym, ap, ◌∙◌, subst, refl, append-nil}
use Rattle.std.specs.Prelude.{Result, Ok, Err, IfOk, IfErr, OnOk}
use Rattle.std.specs.List.{IsDistinct, fold}
use Rattle.language_meaning.specs.Trees.{FormulaTrees}
use Rattle.language_meaning.specs.Value.{same_name}
use Rattle.written_syntax.specs.Writable.{AreWritableFormulas}
use Rattle.language_meaning.specs.Statements.{CommandTree}
use Rattle.logic_meaning.specs.Names.{with_name}
use Rattle.language_meaning.specs.Resolving.{all_variables}
use Rattle.resolved_formulas.proofs.PlaceLaws.{after_has, after_distinct}
use Rattle.formula_resolving.specs.Numbering.{Grows}
use Rattle.program_meaning.specs.declared.line.Line.{Line}
use Rattle.program_meaning.specs.declared.line.StatementError.{StatementError}
use Rattle.program_meaning.specs.State.{State, with_names}
use Rattle.session_state.specs.declared.state.SessionState.{SessionState}
use Rattle.session_state.specs.Keeping.{state_of, HasIds, IsSessionState}
use Rattle.session_state.specs.Growth.{KeepsState}
use Rattle.session_state.proofs.StateLemmas.{state_parts, same_state, same_session, sound_with, length_grows}
use Rattle.session_state.proofs.VariableLemmas.{AllVariables, variables_of_all, all_put_in}
use Rattle.form_commands.specs.Replies.{use_of, Refuses, IsQueryAnswer}
use Rattle.form_commands.specs.Reading.{AreNumbered}
use Rattle.form_commands.proofs.ReadLemmas.{numbered_in}

module _ (state : SessionState) (names : List (List ℕ)) (written : FormulaTrees) (h : IsSessionState state) (more : Grows state.names names)
    (is : names ≡ fold with_name state.names (all_variables written)) (proper : AreWritableFormulas written) where
  -- the state where the variables of the constraints have their numbers
  abbrev pub named_session : SessionState
  named_session = record { alloc = state.alloc; context = state.context; names = names; bindings = state.bindings; standing = state.standing; answers = state.answers; store = state.store; kept = state.kept }

  -- the same as a state of statements
  abbrev pub named_state : State
  named_state = with_names (state_of state) (fold with_name state.names (all_variables written ++ []))

  start : state_of named_session ≡ named_state
  start = state_parts _ _ _ _ _ _ _ _ _ _ refl (is ∙ ap (λ xs. fold with_name state.names xs) (sym (append-nil (all_variables written)))) refl refl refl

  ids_named : HasIds named_session
  ids_named = record { bound = h.ids.bound; answers = h.ids.answers }

  pub session_named : IsSessionState named_session
  session_named = record {
    ids = ids_named;
    bound_once = h.bound_once;
    sound = sound_with (state_of state) names h.sound (subst (λ ms. IsDistinct same_name ms) (sym is) (after_distinct (all_variables written) state.names h.sound.names_once))
        (subst AllVariables (sym is) (all_put_in state.names (all_variables written) h.sound.variables (variables_of_all written proper)))
        (length_grows state.names names more);
  }

  pub numbers_there : AreNumbered names written
  numbers_there = subst (λ ms. AreNumbered ms written) (sym is) (numbered_in written (fold with_name state.names (all_variables written)) (λ x i. after_has (all_variables written) state.names x (inr i)))

  module _ (c : CommandTree) (limit : ℕ) (printed : Bool) (r : Result Line StatementError) where
    pub refused_there : IfErr r (Refuses (state_of named_session) limit (use_of None printed) c) → IfErr r (Refuses named_state limit (use_of None printed) c)
    refused_there k = subst (λ s. IfErr r (Refuses s limit (use_of None printed) c)) start k

    pub told_there : (after : List (List ℕ)) → IfOk r (IsQueryAnswer (state_of named_session) limit printed c after) → IfOk r (IsQueryAnswer named_state limit printed c after)
    told_there after k = subst (λ s. IfOk r (IsQueryAnswer s limit printed c after)) start k

  module _ (later : SessionState) (k : KeepsState named_session later) {T : Type 0} (r : Result T StatementError) where
    pub session_later : OnOk r (IsSessionState later)
    session_later = go r
      where
        go : (q : Result T StatementError) → OnOk q (IsSessionState later)
        go (Ok x) = same_session named_session later session_named k
        go (Err e) = tt

    pub state_later : OnOk r (state_of later ≡ named_state)
    state_later = go r
      where
        go : (q : Result T StatementError) → OnOk q (state_of later ≡ named_state)
        go (Ok x) = same_state named_session later ids_named k ∙ start
        go (Err e) = tt
