-- From step to step of the truth at a point.
use Rattle.std.proofs.Common.{◌≡◌, ◌↔◌, IsTrue, ℕ, List, ◌++◌, Bool, None, sym, subst}
use Rattle.std.specs.Prelude.{Result, IfOk, IfErr, OnOk}
use Rattle.std.specs.List.{fold}
use Rattle.logic_meaning.specs.Shape.{IsQuantifierFree}
use Rattle.logic_meaning.specs.Tree.{Tree, TrueAt}
use Rattle.normal_atoms.specs.Atoms.{context_of}
use Rattle.normal_atoms.proofs.Stepped.{ok_map}
use Rattle.language_meaning.specs.declared.entries.PointEntry.{PointEntry}
use Rattle.written_syntax.specs.PointNumbers.{Numbers, point_of}
use Rattle.written_syntax.specs.Writable.{AreWritableEntries}
use Rattle.language_meaning.specs.Statements.{Holds}
use Rattle.language_meaning.specs.Trees.{FormulaTree}
use Rattle.logic_meaning.specs.Names.{with_name}
use Rattle.language_meaning.specs.Resolving.{at_names, formula_variables, resolve}
use Rattle.formula_resolving.specs.Numbering.{Grows}
use Rattle.formula_store.specs.declared.id.FormulaId.{FormulaId}
use Rattle.formula_store.specs.Nodes.{tree}
use Rattle.formula_store.specs.Truths.{Tells, IsWholeWhereAsked}
use Rattle.program_meaning.specs.declared.line.Line.{Line}
use Rattle.program_meaning.specs.declared.line.StatementError.{StatementError}
use Rattle.session_state.specs.declared.state.SessionState.{SessionState}
use Rattle.session_state.specs.Keeping.{state_of, IsSessionState}
use Rattle.session_state.specs.Growth.{KeepsState}
use Rattle.session_state.specs.Scripted.{IsScripted}
use Rattle.program_meaning.specs.State.{State, known}
use Rattle.form_commands.specs.Replies.{use_of, Refuses, IsQueryAnswer}
use Rattle.form_commands.specs.Reading.{HasNumbers}
use Rattle.point_queries.specs.Asked.{AcceptsBoth, entry_names, IsAsked}
use Rattle.program_meaning.specs.Meaning.{meaning}
use Rattle.session_state.specs.Numbered.{numbered}
use Rattle.program_meaning.specs.Reply.{IsLine}
use Rattle.program_meaning.specs.Words.{truth_text}
use Rattle.program_meaning.specs.Points.{IsQuantified, IsTruth}
use Rattle.point_queries.specs.Truths.{RefusesTruth, ValueStop, EliminationStop}
use Rattle.point_queries.proofs.AskedSteps.{same, theory, asked_normal, named_session, start}
use Rattle.form_commands.proofs.CaseLemmas.{err_map}
use Rattle.point_queries.proofs.CaseSteps.{on_ok}
use Rattle.form_commands.proofs.FromEngineAnswers.{whole_where_asked}
use Rattle.point_queries.proofs.PointLemmas.{resolved_free}
use Rattle.point_queries.proofs.TruthLemmas.{truth_passes, elimination_stops, is_truth, told_in}

module _ (old new : SessionState) (f : FormulaTree) (es : List PointEntry) (state : IsSessionState old) (numbers : HasNumbers old.names f) (k : KeepsState old new) (i : FormulaId) (q : Numbers)
    (a : IsAsked (state_of old) f es new i q) where
  abbrev s : State
  s = state_of old

  abbrev t : Tree
  t = resolve s.context (known s) s.names f

  theory_is : context_of new.context ≡ s.context
  theory_is = theory old new f es state numbers k

  quantified_here : IsQuantified (known (state_of new)) f → IsQuantified (known s) f
  quantified_here h = subst (λ (u : State). IsQuantified (known u) f) (same old new f es state numbers k) h

  free_here : ¬ (IsQuantified (known (state_of new)) f) → ¬ (IsQuantified (known s) f)
  free_here h = subst (λ (u : State). ¬ (IsQuantified (known u) f)) (same old new f es state numbers k) h

  pub free_there : ¬ (IsQuantified (known (state_of new)) f) → IsQuantifierFree (tree new.store i)
  free_there h = subst (λ (u : Tree). IsQuantifierFree u) (sym a.made.same) (resolved_free s.context (known s) s.names f (free_here h))

  pub whole_there : IsWholeWhereAsked (tree new.store i) q.denominator
  whole_there = subst (λ (u : Tree). IsWholeWhereAsked u q.denominator) (sym a.made.same) (whole_where_asked s.context t q.denominator (asked_normal old new f es state numbers k i q a) q.positive a.theory)

  -- what is said of the formula of the store at the names there
  here : (P : Tree → List (List ℕ) → Type 0) → P (tree new.store i) new.names → P t s.names
  here P h = subst (P t) k.names (subst (λ (u : Tree). P u new.names) a.made.same h)

  truth_is : (b : Bool) → (IsTrue b ↔ TrueAt s.context t (at_names s.names (point_of q))) → IsTruth s f es b
  truth_is b h = is_truth s f es (point_of q) a.meant numbers b state.sound.names_once a.readable a.theory h

  pub truth_told : (r : Result Bool StatementError) → IfOk r (λ b. Tells b (tree new.store i) (at_names new.names (point_of q))) → IfOk r (IsTruth s f es)
  truth_told r h = ok_map r (λ b u. truth_is b (told_in s.context b _ _ (here (λ v ns. Tells b v (at_names ns (point_of q))) u))) h

  pub eliminated_told : (r : Result Bool StatementError) → IfOk r (λ b. IsTrue b ↔ TrueAt (context_of new.context) (tree new.store i) (at_names new.names (point_of q))) → IfOk r (IsTruth s f es)
  eliminated_told r h =
      ok_map r (λ b u. truth_is b (here (λ v ns. IsTrue b ↔ TrueAt s.context v (at_names ns (point_of q)))
      (subst (λ c. IsTrue b ↔ TrueAt c (tree new.store i) (at_names new.names (point_of q))) theory_is u))) h

  pub truth_clear : (r : Result Bool StatementError) → OnOk r (AcceptsBoth s f es)
  truth_clear r = on_ok r a.clear

  module _ (r : Result Bool StatementError) (limit : ℕ) where
    pub truth_stops : ¬ (IsQuantified (known (state_of new)) f) → IfErr r (ValueStop (tree new.store i) (at_names new.names (point_of q))) → IfErr r (RefusesTruth s limit f es)
    truth_stops free h = err_map r (λ e u. truth_passes s f es (point_of q) a.meant a.clear limit (free_here free) e (here (λ v ns. ValueStop v (at_names ns (point_of q)) e) u)) h

    pub eliminated_stops : IsQuantified (known (state_of new)) f → IfErr r (EliminationStop (context_of new.context) limit (tree new.store i) (at_names new.names (point_of q)))
        → IfErr r (RefusesTruth s limit f es)
    eliminated_stops quantified h =
        err_map r (λ e u. elimination_stops s f es (point_of q) a.meant a.clear limit (quantified_here quantified) e (here (λ v ns. EliminationStop s.context limit v (at_names ns (point_of q)) e)
        (subst (λ c. EliminationStop c limit (tree new.store i) (at_names new.names (point_of q)) e) theory_is u))) h

-- ---- the names of the command

module _ (state : SessionState) (names : List (List ℕ)) (f : FormulaTree) (es : List PointEntry) (h : IsSessionState state) (grown : Grows state.names names)
    (is : names ≡ fold with_name state.names (formula_variables f ++ entry_names es)) (proper : IsScripted f) (proper_entries : AreWritableEntries es) where
  pub truth_refused : {E : Type 0} (r : Result E StatementError) (limit : ℕ) (printed : Bool) → IfErr r (RefusesTruth (state_of (named_session state names f es h grown is proper proper_entries)) limit f es)
      → IfErr r (Refuses (numbered (meaning (Holds f es)) (state_of state)) limit (use_of None printed) (Holds f es))
  truth_refused r limit printed k = err_map r (λ e t. subst (λ s. Refuses s limit (use_of None printed) (Holds f es) e) (start state names f es h grown is proper proper_entries) (t printed)) k

  pub truth_answered : (r : Result Line StatementError) (limit : ℕ) (printed b : Bool) (text : List ℕ) → IsTruth (state_of (named_session state names f es h grown is proper proper_entries)) f es b → AcceptsBoth (state_of (named_session state names f es h grown is proper proper_entries)) f es → text ≡ truth_text b
      → IfOk r (IsLine printed text) → (after : List (List ℕ)) → IfOk r (IsQueryAnswer (numbered (meaning (Holds f es)) (state_of state)) limit printed (Holds f es) after)
  truth_answered r limit printed b text truth clear same k after =
      ok_map r (λ line l. subst (λ s. IsQueryAnswer s limit printed (Holds f es) after line) (start state names f es h grown is proper proper_entries) (record { accepted = (clear limit printed).0; text = text; told = (b, truth, same); line = l })) k
