-- From step to step of what is asked at a point.
use Rattle.std.proofs.Common.{◌≡◌, inl, inr, ℕ, List, [], ◌∷◌, ◌++◌, Option, Some, None, MatchOption, sym, ap, ◌∙◌, subst, refl}
use Rattle.std.specs.Prelude.{Result, OnOk}
use Rattle.std.proofs.lemmas.List.{append-nil}
use Rattle.std.specs.List.{IsDistinct, AllByRecursion, fold}
use Rattle.logic_meaning.specs.Every.{Every}
use Rattle.logic_meaning.specs.Point.{Of}
use Rattle.logic_meaning.specs.Some.{SomeOf}
use Rattle.logic_meaning.specs.Tree.{Tree}
use Rattle.normal_atoms.specs.Atoms.{context_of}
use Rattle.logic_meaning.specs.NormalForm.{IsNormal}
use Rattle.language_meaning.specs.declared.entries.PointEntry.{PointEntry}
use Rattle.language_meaning.specs.Point.{PassesLimit, IsPointOf}
use Rattle.written_syntax.specs.PointNumbers.{Numbers, point_of}
use Rattle.written_syntax.specs.Writable.{AreWritableEntries}
use Rattle.language_meaning.specs.Statements.{Holds}
use Rattle.language_meaning.specs.Trees.{FormulaTree}
use Rattle.language_meaning.specs.Value.{same_name}
use Rattle.written_syntax.specs.Valued.{IsIn}
use Rattle.logic_meaning.specs.Names.{with_name, place}
use Rattle.language_meaning.specs.Causes.{OverflowsInReading}
use Rattle.formula_tree.specs.Makers.{IsMade}
use Rattle.language_meaning.specs.Resolving.{formula_variables, resolve}
use Rattle.resolved_formulas.proofs.PlaceLaws.{after_has, after_distinct, in_either}
use Rattle.resolved_formulas.proofs.ResolvedTruth.{resolving_is_normal}
use Rattle.formula_resolving.specs.Numbering.{Grows}
use Rattle.formula_store.specs.declared.id.FormulaId.{FormulaId}
use Rattle.formula_store.specs.Nodes.{tree, IsId}
use Rattle.program_meaning.specs.declared.line.StatementError.{StatementError}
use Rattle.program_meaning.specs.declared.line.StatementError.TheVariants as error
use Rattle.session_state.specs.declared.state.SessionState.{SessionState}
use Rattle.session_state.specs.Keeping.{state_of, IsSessionState, HasIds}
use Rattle.session_state.specs.Growth.{KeepsState}
use Rattle.session_state.specs.Scripted.{IsScripted}
use Rattle.program_meaning.specs.State.{State, known}
use Rattle.form_commands.specs.Reading.{HasNumbers, IsReadable}
use Rattle.point_queries.specs.Asked.{HaveNumbers, RefusesBoth, entry_names, IsReadAs, IsMeantPoint, PointStop, IsValued, ValuedStop, IsAsked}
use Rattle.program_meaning.specs.Meaning.{meaning}
use Rattle.session_state.specs.Numbered.{numbered}
use Rattle.program_meaning.specs.Points.{MeanNoPoint}
use Rattle.point_queries.proofs.AskedLemmas.{no_point, not_valued, reading_passes, point_passes, all_clear}
use Rattle.point_queries.proofs.CaseSteps.{on_ok}
use Rattle.session_state.proofs.StateLemmas.{state_parts, same_state, same_session, length_grows, sound_with}
use Rattle.session_state.proofs.NameLemmas.{numbers_stay}
use Rattle.session_state.proofs.VariableLemmas.{AllVariables, both, all_put_in}
use Rattle.session_state.proofs.KnownLemmas.{known_formulas}
use Rattle.point_queries.proofs.PointLemmas.{of_theory}
use Rattle.point_queries.proofs.EntryLemmas.{names_of_entries}

-- ---- what is looked at

pub there_not : {X : Type 0} (P : Type 0) (Q : X → Type 0) (o : Option X) → ((x : X) → ¬ (o ≡ Some x)) → MatchOption o P Q → P
there_not P Q None none h = h
there_not P Q (Some x) none h = absurd (none x refl)

module _ (old new : SessionState) (f : FormulaTree) (es : List PointEntry) (state : IsSessionState old) (numbers : HasNumbers old.names f) (k : KeepsState old new) where
  abbrev s : State
  s = state_of old

  pub same : state_of new ≡ s
  same = same_state old new state.ids k

  pub theory : context_of new.context ≡ s.context
  theory = ap context_of k.context

  pub ids_there : HasIds new
  ids_there = (same_session old new state k).ids

  module _ (id : Option FormulaId) (read : IsReadAs (state_of old) f es new id) where
    pub point_stops : (e : StatementError) → PointStop (context_of new.context) es e → RefusesBoth s f es e
    point_stops e h = no_point s f es numbers read.clear e (subst (λ c. PointStop c es e) theory h)

    module _ (point : Option Numbers) (meant : IsMeantPoint (context_of new.context) es point) where
      means : ¬ (MeanNoPoint s.context es)
      means = subst (λ c. ¬ (MeanNoPoint c es)) theory meant.meant

      pub valued_stops : (e : StatementError) → ValuedStop (state_of new) f es e → RefusesBoth s f es e
      valued_stops e h = not_valued s f es numbers read.clear means e (subst (λ t. ValuedStop t f es e) same h)

      module _ (valued : IsValued (state_of new) f es) where
        here : IsValued s f es
        here = subst (λ t. IsValued t f es) same valued

        pub no_id : ((i : FormulaId) → ¬ (id ≡ Some i)) → RefusesBoth s f es error.Overflow
        no_id none = reading_passes s f es numbers read.clear means here (there_not _ _ id none read.formula)

        pub no_numbers : ((q : Numbers) → ¬ (point ≡ Some q)) → RefusesBoth s f es error.Overflow
        no_numbers none = point_passes s f es numbers read.clear means here (there_not _ _ point none meant.numbers)

        pub all_asked : (i : FormulaId) (q : Numbers) → id ≡ Some i → point ≡ Some q → AreWritableEntries es → IsAsked s f es new i q
        all_asked i q id_is point_is proper =
            let formula : IsReadable s f × IsMade (IsId new.store) (tree new.store) i (resolve s.context (known s) s.names f)
            = subst (λ o. MatchOption o (OverflowsInReading s.context (known s) (place s.names) f) (λ j. IsReadable s f × IsMade (IsId new.store) (tree new.store) j (resolve s.context (known s) s.names f))) id_is read.formula in
            let with_numbers : IsPointOf es (point_of q) × (¬ (PassesLimit es))
            = subst (λ o. MatchOption o (PassesLimit es) (λ p. IsPointOf es (point_of p) × (¬ (PassesLimit es)))) point_is meant.numbers in
            record {
              readable = formula.0;
              made = formula.1;
              meant = with_numbers.0;
              theory = of_theory s.context es (point_of q) proper means with_numbers.0;
              clear = all_clear s f es numbers read.clear means here with_numbers.1 formula.0;
            }

  -- ---- what is asked

  module _ (i : FormulaId) (q : Numbers) (a : IsAsked (state_of old) f es new i q) where
    pub asked_normal : Every (IsNormal s.context) (resolve s.context (known s) s.names f)
    asked_normal = subst (λ ns. Every (IsNormal s.context) (resolve s.context (known s) ns f)) numbers (resolving_is_normal s.context (known s) s.names f (λ x t e. (known_formulas s state.sound x t e).normal) a.readable)

    pub normal_there : Every (IsNormal (context_of new.context)) (tree new.store i)
    normal_there = subst (λ c. Every (IsNormal c) (tree new.store i)) (sym theory) (subst (λ (t : Tree). Every (IsNormal s.context) t) (sym a.made.same) asked_normal)

    pub theory_there : Of (context_of new.context) (point_of q)
    theory_there = subst (λ c. Of c (point_of q)) (sym theory) a.theory

-- ---- the names of the command

entry_name : (x : List ℕ) (es : List PointEntry) → SomeOf (λ (e : PointEntry). e.name ≡ x) es → IsIn x (entry_names es)
entry_name x [] h = absurd h
entry_name x (e ∷ es) (inl p) = inl p
entry_name x (e ∷ es) (inr h) = inr (entry_name x es h)

each_entry : (es : List PointEntry) (P : PointEntry → Type 0) → ((e : PointEntry) → SomeOf (λ (d : PointEntry). d.name ≡ e.name) es → P e) → AllByRecursion P es
each_entry [] P h = tt
each_entry (e ∷ es) P h = (h e (inl refl), each_entry es P (λ d k. h d (inr k)))

module _ (state : SessionState) (names : List (List ℕ)) (f : FormulaTree) (es : List PointEntry) (h : IsSessionState state) (grown : Grows state.names names)
    (is : names ≡ fold with_name state.names (formula_variables f ++ entry_names es)) (proper : IsScripted f) (proper_entries : AreWritableEntries es) where
  -- the state where the variables of the command have their numbers
  abbrev pub named_session : SessionState
  named_session = record { alloc = state.alloc; context = state.context; names = names; bindings = state.bindings; standing = state.standing; answers = state.answers; store = state.store; kept = state.kept }

  pub start : state_of named_session ≡ numbered (meaning (Holds f es)) (state_of state)
  start = state_parts _ _ _ _ _ _ _ _ _ _ refl (is ∙ ap (λ xs. fold with_name state.names (xs ++ entry_names es)) (sym (append-nil (formula_variables f)))) refl refl refl

  pub session_named : IsSessionState named_session
  session_named = record {
    ids = record { bound = h.ids.bound; answers = h.ids.answers };
    bound_once = h.bound_once;
    sound = sound_with (state_of state) names h.sound (subst (λ ms. IsDistinct same_name ms) (sym is) (after_distinct (formula_variables f ++ entry_names es) state.names h.sound.names_once))
        (subst AllVariables (sym is) (all_put_in state.names (formula_variables f ++ entry_names es) h.sound.variables (both (formula_variables f) (entry_names es) proper.variables (names_of_entries es proper_entries))))
        (length_grows state.names names grown);
  }

  pub numbers_there : HasNumbers names f
  numbers_there = subst (λ ms. HasNumbers ms f) (sym is) (numbers_stay f state.names (entry_names es))

  pub entries_there : HaveNumbers names es
  entries_there =
      subst (λ ms. HaveNumbers ms es) (sym is)
      (each_entry es _ (λ e k. after_has (formula_variables f ++ entry_names es) state.names e.name (inr (in_either e.name (formula_variables f) (entry_names es) (inr (entry_name e.name es k))))))

  module _ (later : SessionState) (k : KeepsState named_session later) where
    pub state_later : {E : Type 0} (r : Result E StatementError) → OnOk r (state_of later ≡ numbered (meaning (Holds f es)) (state_of state))
    state_later r = on_ok r (same_state named_session later session_named.ids k ∙ start)

    pub session_later : {E : Type 0} (r : Result E StatementError) → OnOk r (IsSessionState later)
    session_later r = on_ok r (same_session named_session later session_named k)
