-- Assumptions put behind the standing ones: the list, the session, and what is answered.
use Rattle.std.proofs.Common.{◌≡◌, inl, inr, ⊎_elim, ℕ, List, [], ◌∷◌, ◌++◌, Bool, true, false, None, sym, ap, ◌∙◌, subst, refl, length, take, map, append_assoc, append-nil}
use Rattle.std.specs.Prelude.{Result, Ok, Err, IfOk, IfErr, OnOk, OnErr, if◌then◌else◌}
use Rattle.std.specs.List.{IsDistinct, fold}
use Rattle.logic_meaning.specs.Formula.{Yes, No, One, Not, And, Or, Impl, Repl, Equiv, Ex, All}
use Rattle.logic_meaning.specs.Some.{EachOf}
use Rattle.logic_meaning.specs.Tree.{Tree}
use Rattle.formula_laws.specs.Within.{IsTreeWithin}
use Rattle.logic_meaning.specs.Names.{with_name}
use Rattle.language_meaning.specs.Resolving.{all_variables}
use Rattle.formula_resolving.specs.Numbering.{Grows}
use Rattle.formula_store.specs.declared.id.FormulaId.{FormulaId}
use Rattle.formula_store.specs.Nodes.{tree}
use Rattle.language_meaning.specs.Trees.{FormulaTrees}
use Rattle.written_syntax.specs.Writable.{AreWritableFormulas}
use Rattle.program_meaning.specs.declared.line.Line.{Line}
use Rattle.program_meaning.specs.declared.line.StatementError.{StatementError}
use Rattle.program_meaning.specs.declared.line.StatementError.TheVariants as error
use Rattle.program_meaning.specs.State.{State, with_standing}
use Rattle.program_meaning.specs.Assumptions.{resolved_all}
use Rattle.program_meaning.specs.Standing.{is_among, behind, with_assumption, grown, standing_text}
use Rattle.program_meaning.specs.Meaning.{Meaning, assumption_meaning}
use Rattle.session_state.specs.Numbered.{numbered}
use Rattle.program_meaning.specs.Causes.{IsCause, IsAccepted, HasNone}
use Rattle.program_meaning.specs.Reply.{IsLine, AnswersAssumptions}
use Rattle.program_meaning.specs.Uses.{Use}
use Rattle.program_meaning.specs.Words.{before}
use Rattle.session_state.specs.declared.state.SessionState.{SessionState}
use Rattle.session_state.specs.Keeping.{state_of, IsSessionFormula, IsSound, IsSessionState}
use Rattle.session_state.specs.Growth.{KeepsState, GrowsState}
use Rattle.session_state.proofs.StateLemmas.{state_parts, same_state, same_session, sound_with, length_grows, keeps_itself, grows_then}
use Rattle.session_state.proofs.VariableLemmas.{AllVariables, variables_of_all, all_put_in}
use Rattle.resolved_formulas.proofs.PlaceLaws.{after_has, after_distinct}
use Rattle.language_meaning.specs.Value.{same_name}
use Rattle.session_state.specs.declared.assumption.Assumption.{Assumption}
use Rattle.session_state.specs.Trees.{standing_trees, IsFront}
use Rattle.form_commands.specs.Replies.{use_of}
use Rattle.form_commands.specs.Refusals.{IsLongText, LineFault}
use Rattle.form_commands.specs.Reading.{AreNumbered, AreReadable, AreUnread, AreAllRead}
use Rattle.form_commands.proofs.CauseLemmas.{HasNoPoint, then_clear, unread_refuses, readable_below, below_bindings}
use Rattle.form_commands.proofs.ReadLemmas.{resolved_formulas, numbered_in}
use Rattle.session_commands.specs.Standing.{RefusesAssumptions, grown_by, IsGrown}

-- ---- the list

pub fold_push : (tree_at : FormulaId → Tree) (ts : List Tree) (ids : List FormulaId) (id : FormulaId) → fold with_assumption ts (map tree_at (ids ++ id ∷ [])) ≡ with_assumption (fold with_assumption ts (map tree_at ids)) (tree_at id)
fold_push tree_at ts [] id = refl
fold_push tree_at ts (d ∷ ids) id = fold_push tree_at (with_assumption ts (tree_at d)) ids id

pub front_self : (ks : List Assumption) → IsFront ks ks
front_self ks = record { more = []; is = sym (append-nil ks) }

pub front_then : (first second third : List Assumption) → IsFront first second → IsFront second third → IsFront first third
front_then first second third h k = record { more = h.more ++ k.more; is = k.is ∙ ap (λ (ks : List Assumption). ks ++ k.more) h.is ∙ append_assoc first h.more k.more }

front_taken : (old more : List Assumption) → take (length old) (old ++ more) ≡ old
front_taken [] more = refl
front_taken (k ∷ old) more = ap (λ (ks : List Assumption). k ∷ ks) (front_taken old more)

pub taken_back : (old new : List Assumption) → IsFront old new → take (length old) new ≡ old
taken_back old new h = ap (take (length old)) h.is ∙ front_taken old h.more

module _ (P : Tree → Type 0) where
  each_behind : (ts : List Tree) (t : Tree) → EachOf P ts → P t → EachOf P (behind ts t)
  each_behind ts t h p = split (is_among t ts)
    where
      pushed : (us : List Tree) → EachOf P us → EachOf P (us ++ t ∷ [])
      pushed [] k = (p, tt)
      pushed (u ∷ us) k = (k.0, pushed us k.1)

      split : (b : Bool) → EachOf P (if b then ts else ts ++ t ∷ [])
      split true = h
      split false = pushed ts h

  each_with : (ts : List Tree) (t : Tree) → EachOf P ts → P t → EachOf P (with_assumption ts t)
  each_with ts No h p = each_behind ts No h p
  each_with ts (One a) h p = each_behind ts (One a) h p
  each_with ts Yes h p = h
  each_with ts (Not f) h p = h
  each_with ts (And fs) h p = h
  each_with ts (Or fs) h p = h
  each_with ts (Impl f g) h p = h
  each_with ts (Repl f g) h p = h
  each_with ts (Equiv f g) h p = h
  each_with ts (Ex x f) h p = h
  each_with ts (All x f) h p = h

  -- what holds of the standing assumptions and of these formulas holds of the new list
  pub each_grown : (ts us : List Tree) → EachOf P ts → EachOf P us → EachOf P (fold with_assumption ts us)
  each_grown ts [] h k = h
  each_grown ts (u ∷ us) h k = each_grown (with_assumption ts u) us (each_with ts u h k.0) k.1

each_same : {P Q : Tree → Type 0} → ((t : Tree) → P t → Q t) → (ts : List Tree) → EachOf P ts → EachOf Q ts
each_same f [] h = tt
each_same f (t ∷ ts) h = (f t h.0, each_same f ts h.1)

-- ---- refusals

module _ (s : State) (given : FormulaTrees) (numbers : AreNumbered s.names given) (limit : ℕ) (printed : Bool) where
  abbrev asked : Meaning
  asked = assumption_meaning given

  abbrev said : Use
  said = use_of None printed

  plain : HasNoPoint asked s limit
  plain = record { further = refl; context = λ h. h; point = λ h. h; unvalued = λ h. h; nodes = λ h. h }

  pub all_unread : (e : StatementError) → AreUnread s given e → RefusesAssumptions given s printed e
  all_unread e h other l = unread_refuses asked s l said numbers (record { further = refl; context = λ h. h; point = λ h. h; unvalued = λ h. h; nodes = λ h. h }) e (λ o q. q) h other

  module _ (readable : AreReadable s given) where
    to_text : HasNone asked s limit said (before error.Text)
    to_text =
        let nodes = readable_below asked s limit said numbers plain readable (λ q. q) (λ o. o) in
        then_clear asked s limit said error.Bindings error.Text refl (below_bindings asked s limit said numbers plain nodes) (λ k. elim k [ inl r ↦ r | inr m ↦ m.1 ])

    -- a line that is not too long
    pub accepted : ¬ (IsLongText printed (standing_text s.names (grown s given))) → IsAccepted asked s limit said
    accepted short = then_clear asked s limit said error.Text error.Memory refl to_text (λ k. ⊎_elim (λ l. l.determined) (λ n. short (k.0, n)) k.1)

pub line_refused : (s : State) (given : FormulaTrees) → AreNumbered s.names given → (printed : Bool) → AreReadable s given → (e : StatementError) → LineFault printed (standing_text s.names (grown s given)) e
    → RefusesAssumptions given s printed e
line_refused s given numbers printed readable e (inl k) other limit = record {
  applies = inl (subst (λ d. IsCause (assumption_meaning given) s limit (use_of None printed) d) (sym k.0) (k.1.0, inr k.1.1));
  first = subst (λ d. HasNone (assumption_meaning given) s limit (use_of None printed) (before d)) (sym k.0) (to_text s given numbers limit printed readable);
}
line_refused s given numbers printed readable e (inr k) other limit = absurd (other k)

-- ---- the answer

module _ (old middle : SessionState) (given : FormulaTrees) (h : IsSessionState old) (numbers : AreNumbered old.names given) (proper : AreWritableFormulas given) (k : KeepsState old middle)
    (ids : List FormulaId) (read : AreAllRead (state_of old) given middle ids) where
  abbrev s : State
  s = state_of old

  formulas : EachOf (IsSessionFormula s.context (length s.names)) (resolved_all s given)
  formulas = resolved_formulas s h.sound given numbers read.readable proper

  standing_there : standing_trees middle.standing ≡ s.standing
  standing_there = ap standing_trees k.standing

  grown_there : grown_by middle (map (tree middle.store) ids) ≡ grown s given
  grown_there = (λ i. fold with_assumption (standing_there i) (read.made.same i))

  grown_formulas : EachOf (IsSessionFormula s.context (length s.names)) (grown s given)
  grown_formulas = each_grown (IsSessionFormula s.context (length s.names)) s.standing (resolved_all s given) h.sound.standing formulas

  pub grown_within : EachOf (IsTreeWithin (length middle.names)) (grown_by middle (map (tree middle.store) ids))
  grown_within =
      subst (λ ns. EachOf (IsTreeWithin (length ns)) (grown_by middle (map (tree middle.store) ids))) (sym k.names)
      (subst (EachOf (IsTreeWithin (length s.names))) (sym grown_there) (each_same (λ t f. f.within) (grown s given) grown_formulas))

  text_there : standing_text middle.names (grown_by middle (map (tree middle.store) ids)) ≡ standing_text s.names (grown s given)
  text_there = (λ i. standing_text (k.names i) (grown_there i))

  module _ (new : SessionState) (g : IsGrown middle (map (tree middle.store) ids) new) where
    grown_state : state_of new ≡ with_standing s (grown s given)
    grown_state =
        ap state_of g.rest ∙ ap (λ (u : State). with_standing u (standing_trees new.standing)) (same_state old middle h.ids k)
        ∙ ap (with_standing s) (g.standing ∙ grown_there)

    grown_session : IsSessionState new
    grown_session =
        let m = same_session old middle h k in
        subst IsSessionState (sym g.rest) (record {
          ids = record { bound = m.ids.bound; answers = m.ids.answers };
          bound_once = m.bound_once;
          sound = subst IsSound (sym (ap state_of (sym g.rest) ∙ grown_state)) (record {
            names_once = h.sound.names_once;
            variables = h.sound.variables;
            formulas = h.sound.formulas;
            numbers = h.sound.numbers;
            standing = grown_formulas;
            answers = h.sound.answers;
            answer_numbers = h.sound.answer_numbers;
          });
        })

  module _ (r : Result Line StatementError) (printed : Bool) (new : SessionState) where
    pub answered_session : OnOk r (IsGrown middle (map (tree middle.store) ids) new) → OnOk r (IsSessionState new)
    answered_session g = go r g
      where
        go : (q : Result Line StatementError) → OnOk q (IsGrown middle (map (tree middle.store) ids) new) → OnOk q (IsSessionState new)
        go (Ok line) g = grown_session new g
        go (Err e) g = tt

    pub answered : OnOk r (IsGrown middle (map (tree middle.store) ids) new) → IfOk r (IsLine printed (standing_text middle.names (grown_by middle (map (tree middle.store) ids))))
        → OnOk r (¬ (IsLongText printed (standing_text middle.names (grown_by middle (map (tree middle.store) ids)))))
        → IfOk r (λ line. (limit : ℕ) → AnswersAssumptions given s limit printed line (state_of new))
    answered g l short = go r g l short
      where
        go : (q : Result Line StatementError) → OnOk q (IsGrown middle (map (tree middle.store) ids) new) → IfOk q (IsLine printed (standing_text middle.names (grown_by middle (map (tree middle.store) ids))))
            → OnOk q (¬ (IsLongText printed (standing_text middle.names (grown_by middle (map (tree middle.store) ids))))) → IfOk q (λ line. (limit : ℕ) → AnswersAssumptions given s limit printed line (state_of new))
        go (Ok line) g l short = λ limit. record {
          said = record {
            accepted = accepted s given numbers limit printed read.readable (subst (λ t. ¬ (IsLongText printed t)) text_there short);
            names = s.names;
            named = refl;
            text = standing_text s.names (grown s given);
            told = refl;
            line = subst (λ t. IsLine printed t line) text_there l;
            after = refl;
          };
          after = grown_state new g;
        }
        go (Err e) g l short = tt

    pub refused : IfErr r (LineFault printed (standing_text middle.names (grown_by middle (map (tree middle.store) ids)))) → IfErr r (RefusesAssumptions given s printed)
    refused f = go r f
      where
        go : (q : Result Line StatementError) → IfErr q (LineFault printed (standing_text middle.names (grown_by middle (map (tree middle.store) ids)))) → IfErr q (RefusesAssumptions given s printed)
        go (Ok line) f = tt
        go (Err e) f = line_refused s given numbers printed read.readable e (subst (λ t. LineFault printed t e) text_there f)

    pub kept : OnErr r (new ≡ middle) → OnErr r (KeepsState old new)
    kept e = go r e
      where
        go : (q : Result Line StatementError) → OnErr q (new ≡ middle) → OnErr q (KeepsState old new)
        go (Ok line) e = tt
        go (Err d) e = subst (KeepsState old) (sym e) k

-- ---- the names of the assumptions

module _ (state : SessionState) (names : List (List ℕ)) (given : FormulaTrees) (h : IsSessionState state) (more : Grows state.names names)
    (is : names ≡ fold with_name state.names (all_variables given)) (proper : AreWritableFormulas given) where
  -- the state where the variables of the assumptions have their numbers
  abbrev pub with_numbers : SessionState
  with_numbers = record { alloc = state.alloc; context = state.context; names = names; bindings = state.bindings; standing = state.standing; answers = state.answers; store = state.store; kept = state.kept }

  start : state_of with_numbers ≡ numbered (assumption_meaning given) (state_of state)
  start = state_parts _ _ _ _ _ _ _ _ _ _ refl (is ∙ ap (λ xs. fold with_name state.names xs) (sym (append-nil (all_variables given)))) refl refl refl

  pub session_named : IsSessionState with_numbers
  session_named = record {
    ids = record { bound = h.ids.bound; answers = h.ids.answers };
    bound_once = h.bound_once;
    sound = sound_with (state_of state) names h.sound (subst (λ ms. IsDistinct same_name ms) (sym is) (after_distinct (all_variables given) state.names h.sound.names_once))
        (subst AllVariables (sym is) (all_put_in state.names (all_variables given) h.sound.variables (variables_of_all given proper)))
        (length_grows state.names names more);
  }

  pub numbers_there : AreNumbered names given
  numbers_there = subst (λ ms. AreNumbered ms given) (sym is) (numbered_in given (fold with_name state.names (all_variables given)) (λ x i. after_has (all_variables given) state.names x (inr i)))

  pub told_there : (r : Result Line StatementError) (printed : Bool) (new : SessionState) → IfOk r (λ line. (limit : ℕ) → AnswersAssumptions given (state_of with_numbers) limit printed line (state_of new))
      → IfOk r (λ line. (limit : ℕ) → AnswersAssumptions given (numbered (assumption_meaning given) (state_of state)) limit printed line (state_of new))
  told_there r printed new k = subst (λ s. IfOk r (λ line. (limit : ℕ) → AnswersAssumptions given s limit printed line (state_of new))) start k

  pub refused_there : (r : Result Line StatementError) (printed : Bool) → IfErr r (RefusesAssumptions given (state_of with_numbers) printed) → IfErr r (RefusesAssumptions given (numbered (assumption_meaning given) (state_of state)) printed)
  refused_there r printed k = subst (λ s. IfErr r (RefusesAssumptions given s printed)) start k

  pub grown_there_too : (r : Result Line StatementError) (new : SessionState) → OnErr r (KeepsState with_numbers new) → OnErr r (GrowsState state new)
  grown_there_too r new k = go r k
    where
      go : (q : Result Line StatementError) → OnErr q (KeepsState with_numbers new) → OnErr q (GrowsState state new)
      go (Ok line) k = tt
      go (Err e) k = grows_then state with_numbers new (keeps_itself state names more) k
