-- From step to step of a case list.
use Rattle.std.proofs.Common.{◌≡◌, ◌↔◌, inl, inr, ℕ, List, [], ◌∷◌, ◌++◌, map, length, Bool, None, sym, ap, ◌∙◌, subst, refl, arith}
use Rattle.std.proofs.lemmas.List.{append-nil}
use Rattle.std.specs.Prelude.{Result, Ok, Err, IfOk, IfErr, OnOk}
use Rattle.std.specs.List.{IsDistinct, fold}
use Rattle.logic_meaning.specs.Atom.{Atom, Says}
use Rattle.logic_meaning.specs.Context.{Context}
use Rattle.logic_meaning.specs.Every.{Every}
use Rattle.logic_meaning.specs.Formula.{Or, also}
use Rattle.logic_meaning.specs.Point.{Of}
use Rattle.logic_meaning.specs.Some.{EachOf}
use Rattle.logic_meaning.specs.Tree.{Tree, TrueAt}
use Rattle.logic_meaning.specs.NormalForm.{IsNormal}
use Rattle.normal_atoms.proofs.Stepped.{ok_map}
use Rattle.logic_meaning.specs.Cases.{Case, case_sign}
use Rattle.logic_meaning.specs.AnswerParts.{guards_of}
use Rattle.reference_engine.specs.declared.cases.PrintedCase.{PrintedCase}
use Rattle.reference_engine.specs.Case.{case_seen}
use Rattle.written_syntax.specs.Writable.{AreWritableFormulas}
use Rattle.language_meaning.specs.Statements.{Qea}
use Rattle.language_meaning.specs.Trees.{FormulaTree, FormulaTrees}
use Rattle.language_meaning.specs.Value.{NamedPoint, same_name}
use Rattle.language_meaning.specs.Value as written
use Rattle.logic_meaning.specs.Names.{with_name}
use Rattle.language_meaning.specs.Resolving.{formula_variables, all_variables, resolve, at_names, bound_truth}
use Rattle.resolved_formulas.proofs.PlaceLaws.{after_distinct}
use Rattle.formula_resolving.specs.Numbering.{Grows}
use Rattle.formula_laws.specs.Within.{IsAtomWithin}
use Rattle.redlog_printer.specs.Within.{AreCasesWithin}
use Rattle.logic_meaning.specs.AnswerTexts.{cases_text}
use Rattle.program_meaning.specs.declared.line.Line.{Line}
use Rattle.program_meaning.specs.declared.line.StatementError.{StatementError}
use Rattle.program_meaning.specs.declared.line.StatementError.TheVariants as error
use Rattle.session_state.specs.declared.state.SessionState.{SessionState}
use Rattle.session_state.specs.Keeping.{state_of, IsSessionFormula, IsSound, IsSessionState}
use Rattle.session_state.specs.Growth.{KeepsState}
use Rattle.session_state.specs.Scripted.{IsScripted}
use Rattle.program_meaning.specs.State.{State, known}
use Rattle.program_meaning.specs.Assumptions.{Hold, assumed}
use Rattle.program_meaning.specs.Cases.{IsCaseOf, IsCaseAnswer}
use Rattle.form_commands.specs.declared.error.FormsError.{FormsError}
use Rattle.form_commands.specs.Faults.{CasesFault}
use Rattle.form_commands.specs.declared.way.Way.{Way}
use Rattle.form_commands.specs.Cases.{IsCaseFor, AreCasesFor, AreWantedCases, AreCasesBy}
use Rattle.form_commands.specs.declared.error.FormsError.TheVariants as forms
use Rattle.form_commands.specs.declared.way.Way.TheVariants as way
use Rattle.form_commands.specs.Replies.{use_of, Refuses, IsQueryAnswer}
use Rattle.form_commands.specs.Refusals.{forms_refusal, LineFault}
use Rattle.point_queries.specs.CaseLists.{CasesRefuse}
use Rattle.form_commands.specs.Reading.{AreNumbered, AreReadable, AreUnread}
use Rattle.program_meaning.specs.Meaning.{meaning, Meaning}
use Rattle.session_state.specs.Numbered.{numbered}
use Rattle.program_meaning.specs.Uses.{Use}
use Rattle.program_meaning.specs.Causes.{HasNone, IsAccepted}
use Rattle.program_meaning.specs.Reply.{IsLine}
use Rattle.program_meaning.specs.Words.{before}
use Rattle.program_meaning.specs.FormulaAnswers.{negation_normal_of}
use Rattle.form_commands.proofs.AssumptionLemmas.{assumed_hold}
use Rattle.form_commands.proofs.CauseLemmas.{HasNoPoint, then_clear, unread_refuses, ready_below, readable_below, below_bindings}
use Rattle.form_commands.proofs.CaseLemmas.{err_map, IsReferenceCase, reference_known, left_no_longer, turned_under, turned_along}
use Rattle.form_commands.proofs.CasesFor.{cases_for, cases_within}
use Rattle.form_commands.proofs.EliminatedLemmas.{orderly_members}
use Rattle.session_state.proofs.StateLemmas.{state_parts, same_state, same_session, length_grows, sound_with}
use Rattle.session_state.proofs.VariableLemmas.{AllVariables, both, not_empty, variables_of_all, all_put_in}
use Rattle.form_commands.proofs.ReadLemmas.{numbers_of, readable_formula, assumed_normal}
use Rattle.form_commands.proofs.ReadTruth.{truth_as_written}

-- ---- results

pub on_ok : {T E : Type 0} {P : Type 0} (r : Result T E) → P → OnOk r P
on_ok (Ok x) p = p
on_ok (Err e) p = tt

-- ---- refusals

module _ (s : State) (f : FormulaTree) (gs : FormulaTrees) (numbers : AreNumbered s.names (also f gs)) (limit : ℕ) (printed : Bool) where
  abbrev asked : Meaning
  asked = meaning (Qea f gs)

  abbrev said : Use
  said = use_of None printed

  plain : HasNoPoint asked s limit
  plain = record { further = refl; context = λ h. h; point = λ h. h; unvalued = λ h. h; nodes = λ h. h }

  pub cases_unread : (e : StatementError) → AreUnread s (also f gs) e → Refuses s limit said (Qea f gs) e
  cases_unread e h other = unread_refuses asked s limit said numbers plain e (λ o q. q) h other

  module _ (readable : AreReadable s (also f gs)) where
    to_nodes : HasNone asked s limit said (before error.Nodes)
    to_nodes = readable_below asked s limit said numbers plain readable (λ q. q) (λ o. o)

    to_text : HasNone asked s limit said (before error.Text)
    to_text = then_clear asked s limit said error.Bindings error.Text refl (below_bindings asked s limit said numbers plain to_nodes) (λ k. elim k [ inl r ↦ r | inr m ↦ m.1 ])

    clear : IsAccepted asked s limit said
    clear = then_clear asked s limit said error.Text error.Memory refl to_text (λ k. elim k.1 [ inl l ↦ l.determined | inr n ↦ n ])

    pub cases_stopped : (e : FormsError) → CasesFault s.context limit (resolve s.context (known s) s.names f) e → Refuses s limit said (Qea f gs) (forms_refusal e)
    cases_stopped forms.Nodes k other = record { applies = inr (λ p. p, k); first = to_nodes }
    cases_stopped forms.Overflow k other = record { applies = inr (λ p. p, k); first = ready_below asked s limit said numbers plain readable (λ q. q) }
    cases_stopped forms.Memory k other = absurd (other refl)

    -- ---- the case list

    module _ (sound : IsSound s) (own : IsSessionFormula s.context (length s.names) (resolve s.context (known s) s.names f)) (w : Way) (left : List Case)
        (found : AreCasesBy w s.context (assumed s gs) limit (resolve s.context (known s) s.names f) left) where
      abbrev t : Tree
      t = resolve s.context (known s) s.names f

      cases : AreCasesFor s.context (assumed s gs) t left
      cases = cases_for s.context (assumed s gs) t w limit left own.normal found

      assumptions_say : (p : NamedPoint) → Of s.context p → Hold s gs p → EachOf (λ k. Says k (at_names s.names p)) (assumed s gs)
      assumptions_say p of hold = assumed_hold s f gs readable sound.names_once numbers p of hold

      as_written : (p : NamedPoint) → Of s.context p → written.TrueAt (bound_truth s.context (known s) s.names) s.context f p ↔ TrueAt s.context t (at_names s.names p)
      as_written p of = truth_as_written s f (numbers.0) sound.names_once (readable.0) p of

      case_of : (k : Case) → IsCaseFor s.context (assumed s gs) t k → IsCaseOf s f gs k
      case_of k h = record {
        free = h.free;
        names = h.names;
        reduced = h.reduced;
        possible = h.possible;
        normal = h.normal;
        members = orderly_members (IsNormal s.context) k.guard h.orderly;
        numbers = h.numbers;
        once = h.once;
        answers = h.answers;
        exact = λ p of hold. h.exact (at_names s.names p) of (assumptions_say p of hold);
      }

      each_of : (ks : List Case) → EachOf (IsCaseFor s.context (assumed s gs) t) ks → EachOf (IsCaseOf s f gs) ks
      each_of [] h = tt
      each_of (k ∷ ks) h = (case_of k h.0, each_of ks h.1)

      answer : IsCaseAnswer s f gs left
      answer = record {
        each = each_of left cases.each;
        together = λ p of hold.
            let sign = case_sign (negation_normal_of s f) in
            let a = turned_along sign _ _ (as_written p of) in
            let b = turned_under s.context (assumed s gs) sign t (Or (guards_of left)) (at_names s.names p) of (assumptions_say p of hold) cases.together in
            (λ x. b.0 (a.0 x), λ x. a.1 (b.1 x));
      }

      pub cases_answered : (line : Line) (after : List (List ℕ)) → IsLine printed (cases_text s.names left) line → IsQueryAnswer s limit printed (Qea f gs) after line
      cases_answered line after l = record { accepted = clear; text = cases_text s.names left; told = (left, answer, refl); line = l }

      pub cases_below : AreCasesWithin (length s.names) left
      cases_below = cases_within s.context (assumed s gs) (length s.names) t left own.within cases

    -- a list of the reference elimination that is too long
    module _ (sound : IsSound s) (own : IsSessionFormula s.context (length s.names) (resolve s.context (known s) s.names f)) (left : List Case)
        (wanted : AreWantedCases s.context (assumed s gs) limit (resolve s.context (known s) s.names f) left) where
      each_within : (ks : List Case) → EachOf (IsReferenceCase s.context (length s.names) (resolve s.context (known s) s.names f)) ks → EachOf (λ (k : Case). Every (IsAtomWithin (length s.names)) k.guard) ks
      each_within [] h = tt
      each_within (k ∷ ks) h = (h.0.formula.within.atoms, each_within ks h.1)

      cases_too_long : (e : StatementError) → LineFault printed (cases_text s.names left) e → Refuses s limit said (Qea f gs) e
      cases_too_long e (inl k) =
          let known = reference_known s.context (length s.names) (resolve s.context (known s) s.names f) own limit wanted.cases wanted.cost wanted.same in
          let short = left_no_longer s.context (assumed s gs) s.names (not_empty s.names sound.variables) wanted.cases left (each_within wanted.cases known) wanted.simplified in
          subst (Refuses s limit said (Qea f gs)) (sym k.0)
          (λ other. record { applies = inr (λ p. p, k.1.0, inr (wanted.cases, wanted.cost, wanted.same, omega (arith, k.1.1, short))); first = to_text })
      cases_too_long e (inr k) = λ other. absurd (other k)

    line_refuses : IsSound s → IsSessionFormula s.context (length s.names) (resolve s.context (known s) s.names f) → (w : Way) (left : List Case)
        → AreCasesBy w s.context (assumed s gs) limit (resolve s.context (known s) s.names f) left → (e : StatementError) → LineFault printed (cases_text s.names left) e → CasesRefuse w s limit printed f gs e
    line_refuses sound own way.ByReference left found e k = cases_too_long sound own left found e k
    line_refuses sound own way.ByCases left found e (inl k) = λ other. absurd (other k.0)
    line_refuses sound own way.ByCases left found e (inr k) = λ other more. absurd (more k)

-- what refuses the command refuses it in either way
refuses_by : (w : Way) (s : State) (limit : ℕ) (printed : Bool) (f : FormulaTree) (gs : FormulaTrees) (e : StatementError) → Refuses s limit (use_of None printed) (Qea f gs) e → CasesRefuse w s limit printed f gs e
refuses_by way.ByCases s limit printed f gs e h = λ other. h
refuses_by way.ByReference s limit printed f gs e h = h

-- ---- after the formula and its assumptions were resolved

-- in an engine's theory, which is that of the state
module _ (old : SessionState) (f : FormulaTree) (gs : FormulaTrees) (h : IsSessionState old) (numbers : AreNumbered old.names (also f gs)) (readable : AreReadable (state_of old) (also f gs))
    (proper : IsScripted f) (proper_given : AreWritableFormulas gs) (c : Context) (theory : c ≡ (state_of old).context) where
  abbrev s : State
  s = state_of old

  module _ (t : Tree) (same : t ≡ resolve s.context (known s) s.names f) where
    pub normal_there : Every (IsNormal c) t
    normal_there = subst (λ d. Every (IsNormal d) t) (sym theory) (subst (Every (IsNormal s.context)) (sym same) (readable_formula f s (numbers.0) h.sound proper.proper (readable.0)).normal)

    pub stopped_there : (limit m : ℕ) → m ≡ limit → (e : FormsError) → CasesFault c m t e → (printed : Bool) → Refuses s limit (use_of None printed) (Qea f gs) (forms_refusal e)
    stopped_there limit m limits e d printed =
        cases_stopped s f gs numbers limit printed readable e
        (subst (λ n. CasesFault s.context n (resolve s.context (known s) s.names f) e) limits (subst (λ u. CasesFault s.context m u e) same (subst (λ d. CasesFault d m t e) theory d)))

    module _ (ks : List Atom) (same_atoms : ks ≡ assumed s gs) where
      pub atoms_there : EachOf (IsNormal c) ks
      atoms_there = subst (λ d. EachOf (IsNormal d) ks) (sym theory) (subst (EachOf (IsNormal s.context)) (sym same_atoms) (assumed_normal s h.sound f gs numbers readable proper_given))

      pub found_there : (w : Way) (limit m : ℕ) → m ≡ limit → (left : List Case) → AreCasesBy w c ks m t left → AreCasesBy w s.context (assumed s gs) limit (resolve s.context (known s) s.names f) left
      found_there w limit m limits left found =
          subst (λ n. AreCasesBy w s.context (assumed s gs) n (resolve s.context (known s) s.names f) left) limits
          (subst (λ ls. AreCasesBy w s.context ls m (resolve s.context (known s) s.names f) left) same_atoms
          (subst (λ u. AreCasesBy w s.context ks m u left) same (subst (λ d. AreCasesBy w d ks m t left) theory found)))

pub unread_there : {T : Type 0} (r : Result T StatementError) (s : State) (f : FormulaTree) (gs : FormulaTrees) → AreNumbered s.names (also f gs) → (limit : ℕ) → IfErr r (AreUnread s (also f gs))
    → IfErr r (λ e. (printed : Bool) → Refuses s limit (use_of None printed) (Qea f gs) e)
unread_there r s f gs numbers limit h = err_map r (λ e d printed. cases_unread s f gs numbers limit printed e d) h

-- ---- an attempt

pub attempt_stopped : {T : Type 0} (r : Result T StatementError) (w : Way) (s : State) (limit : ℕ) (printed : Bool) (f : FormulaTree) (gs : FormulaTrees)
    → IfErr r (λ e. (printed : Bool) → Refuses s limit (use_of None printed) (Qea f gs) e) → IfErr r (CasesRefuse w s limit printed f gs)
attempt_stopped r w s limit printed f gs h = err_map r (λ e t. refuses_by w s limit printed f gs e (t printed)) h

-- the line of the cases that were found, in the state that finding them left
module _ (state later : SessionState) (f : FormulaTree) (gs : FormulaTrees) (h : IsSessionState state) (numbers : AreNumbered state.names (also f gs)) (readable : AreReadable (state_of state) (also f gs))
    (kept : KeepsState state later) (proper : IsScripted f) (limit : ℕ) (printed : Bool) (w : Way) (items : List PrintedCase)
    (found : AreCasesBy w (state_of state).context (assumed (state_of state) gs) limit (resolve (state_of state).context (known (state_of state)) state.names f) (map case_seen items)) where
  own : IsSessionFormula (state_of state).context (length state.names) (resolve (state_of state).context (known (state_of state)) state.names f)
  own = readable_formula f (state_of state) (numbers.0) h.sound proper.proper (readable.0)

  pub within_there : AreCasesWithin (length later.names) (map case_seen items)
  within_there =
      subst (λ ns. AreCasesWithin (length ns) (map case_seen items)) (sym kept.names)
      (cases_below (state_of state) f gs numbers limit printed readable h.sound own w (map case_seen items) found)

  pub line_answered : (r : Result Line StatementError) (after : List (List ℕ)) → IfOk r (IsLine printed (cases_text later.names (map case_seen items))) → IfOk r (IsQueryAnswer (state_of state) limit printed (Qea f gs) after)
  line_answered r after l =
      ok_map r (λ line i. cases_answered (state_of state) f gs numbers limit printed readable h.sound own w (map case_seen items) found line after
      (subst (λ ns. IsLine printed (cases_text ns (map case_seen items)) line) kept.names i)) l

  pub line_refused : (r : Result Line StatementError) → IfErr r (LineFault printed (cases_text later.names (map case_seen items))) → IfErr r (CasesRefuse w (state_of state) limit printed f gs)
  line_refused r l =
      err_map r (λ e i. line_refuses (state_of state) f gs numbers limit printed readable h.sound own w (map case_seen items) found e
      (subst (λ ns. LineFault printed (cases_text ns (map case_seen items)) e) kept.names i)) l

-- ---- a second attempt

module _ (first second : SessionState) (h : IsSessionState first) (k : KeepsState first second) (limit : ℕ) (printed : Bool) (f : FormulaTree) (gs : FormulaTrees) (r : Result Line StatementError) where
  pub answered_again : (after : List (List ℕ)) → IfOk r (IsQueryAnswer (state_of second) limit printed (Qea f gs) after) → IfOk r (IsQueryAnswer (state_of first) limit printed (Qea f gs) after)
  answered_again after a = subst (λ s. IfOk r (IsQueryAnswer s limit printed (Qea f gs) after)) (same_state first second h.ids k) a

  pub refused_again : IfErr r (CasesRefuse way.ByReference (state_of second) limit printed f gs) → IfErr r (Refuses (state_of first) limit (use_of None printed) (Qea f gs))
  refused_again a = subst (λ s. IfErr r (Refuses s limit (use_of None printed) (Qea f gs))) (same_state first second h.ids k) a

-- ---- the names of the command

module _ (state : SessionState) (names : List (List ℕ)) (f : FormulaTree) (gs : FormulaTrees) (h : IsSessionState state) (grown : Grows state.names names)
    (is : names ≡ fold with_name state.names (formula_variables f ++ all_variables gs)) (proper : IsScripted f) (proper_given : AreWritableFormulas gs) where
  -- the state where the variables of the command have their numbers
  abbrev pub named_session : SessionState
  named_session = record { alloc = state.alloc; context = state.context; names = names; bindings = state.bindings; standing = state.standing; answers = state.answers; store = state.store; kept = state.kept }

  start : state_of named_session ≡ numbered (meaning (Qea f gs)) (state_of state)
  start = state_parts _ _ _ _ _ _ _ _ _ _ refl (is ∙ ap (λ xs. fold with_name state.names xs) (sym (append-nil (formula_variables f ++ all_variables gs)))) refl refl refl

  pub session_named : IsSessionState named_session
  session_named = record {
    ids = record { bound = h.ids.bound; answers = h.ids.answers };
    bound_once = h.bound_once;
    sound = sound_with (state_of state) names h.sound (subst (λ ms. IsDistinct same_name ms) (sym is) (after_distinct (formula_variables f ++ all_variables gs) state.names h.sound.names_once))
        (subst AllVariables (sym is) (all_put_in state.names (formula_variables f ++ all_variables gs) h.sound.variables (both (formula_variables f) (all_variables gs) proper.variables (variables_of_all gs proper_given))))
        (length_grows state.names names grown);
  }

  pub numbers_there : AreNumbered names (also f gs)
  numbers_there = subst (λ ms. AreNumbered ms (also f gs)) (sym is) (numbers_of f gs state.names)

  pub cases_refused : (r : Result Line StatementError) (limit : ℕ) (printed : Bool) → IfErr r (Refuses (state_of named_session) limit (use_of None printed) (Qea f gs))
      → IfErr r (Refuses (numbered (meaning (Qea f gs)) (state_of state)) limit (use_of None printed) (Qea f gs))
  cases_refused r limit printed k = subst (λ s. IfErr r (Refuses s limit (use_of None printed) (Qea f gs))) start k

  pub cases_told : (r : Result Line StatementError) (limit : ℕ) (printed : Bool) (after : List (List ℕ)) → IfOk r (IsQueryAnswer (state_of named_session) limit printed (Qea f gs) after)
      → IfOk r (IsQueryAnswer (numbered (meaning (Qea f gs)) (state_of state)) limit printed (Qea f gs) after)
  cases_told r limit printed after k = subst (λ s. IfOk r (IsQueryAnswer s limit printed (Qea f gs) after)) start k

  module _ (later : SessionState) (k : KeepsState named_session later) where
    pub state_later : {T : Type 0} (r : Result T StatementError) → OnOk r (state_of later ≡ numbered (meaning (Qea f gs)) (state_of state))
    state_later r = on_ok r (same_state named_session later session_named.ids k ∙ start)

    pub session_later : {T : Type 0} (r : Result T StatementError) → OnOk r (IsSessionState later)
    session_later r = on_ok r (same_session named_session later session_named k)
