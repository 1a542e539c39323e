-- From step to step of a sample.
use Rattle.std.proofs.Common.{◌≡◌, ℕ, List, ◌++◌, ◌<◌, ◌≤◌, Bool, Option, None, sym, subst, refl, length, arith}
use Rattle.std.specs.Prelude.{Result, IfOk, IfErr}
use Rattle.std.specs.List.{fold}
use Rattle.std.specs.declared.vec.Vec.{Vec}
use Rattle.std.specs.declared.alloc.Global.{Global}
use Rattle.exact_numbers.specs.declared.fraction.Fraction.{Fraction}
use Rattle.logic_meaning.specs.Context.{Context}
use Rattle.logic_meaning.specs.Point.{Point}
use Rattle.logic_meaning.specs.Sizes.{height}
use Rattle.logic_meaning.specs.Tree.{Tree}
use Rattle.normal_atoms.specs.declared.atoms.Context as atoms
use Rattle.normal_atoms.specs.Atoms.{context_of}
use Rattle.form_commands.specs.FromEngineAnswers.{Limits}
use Rattle.normal_atoms.proofs.Stepped.{ok_map}
use Rattle.logic_meaning.specs.declared.form.VarId.{VarId}
use Rattle.reference_engine.specs.declared.measured.Measured.{Measured}
use Rattle.reference_engine.specs.Told.{StopsWith}
use Rattle.logic_meaning.specs.ReferenceSample.{reference_sample}
use Rattle.sample_reference.specs.TrueSample.{IsTrueSample}
use Rattle.sample_reference.specs.Seen.{sample_of}
use Rattle.logic_meaning.specs.Values.{Value}
use Rattle.language_meaning.specs.declared.entries.PointEntry.{PointEntry}
use Rattle.written_syntax.specs.PointNumbers.{Numbers, point_of}
use Rattle.written_syntax.specs.Writable.{AreWritableEntries}
use Rattle.language_meaning.specs.Statements.{Sample}
use Rattle.language_meaning.specs.Trees.{FormulaTree}
use Rattle.language_meaning.specs.Causes.{most_height}
use Rattle.logic_meaning.specs.Names.{with_name}
use Rattle.language_meaning.specs.Resolving.{at_names, formula_variables, resolve}
use Rattle.resolved_formulas.proofs.ResolvedHeight.{resolving_keeps_height}
use Rattle.formula_resolving.specs.Numbering.{Grows}
use Rattle.formula_store.specs.declared.id.FormulaId.{FormulaId}
use Rattle.formula_store.specs.Nodes.{tree}
use Rattle.logic_meaning.specs.Writing.{text_limit}
use Rattle.program_meaning.specs.declared.line.Line.{Line}
use Rattle.program_meaning.specs.declared.line.StatementError.{StatementError}
use Rattle.session_state.specs.declared.state.SessionState.{SessionState}
use Rattle.session_state.specs.Keeping.{state_of, IsSessionState}
use Rattle.session_state.specs.Growth.{KeepsState}
use Rattle.session_state.specs.Scripted.{IsScripted}
use Rattle.program_meaning.specs.State.{State, known}
use Rattle.form_commands.specs.Replies.{use_of, Refuses, IsQueryAnswer}
use Rattle.form_commands.specs.Refusals.{measured_refusal}
use Rattle.form_commands.specs.Reading.{HasNumbers}
use Rattle.point_queries.specs.Asked.{entry_names, IsAsked}
use Rattle.program_meaning.specs.Meaning.{meaning}
use Rattle.session_state.specs.Numbered.{numbered}
use Rattle.program_meaning.specs.Reply.{IsLine}
use Rattle.program_meaning.specs.Samples.{sample_text}
use Rattle.point_queries.specs.SampleSteps.{RefusesSample, SampleStop, IsSampleWithin, IsWantedSample}
use Rattle.point_queries.proofs.AskedSteps.{theory, asked_normal, named_session, start}
use Rattle.form_commands.proofs.CaseLemmas.{err_map}
use Rattle.form_commands.proofs.ShortSamples.{sample_short}
use Rattle.form_commands.proofs.ReadLemmas.{readable_formula}
use Rattle.point_queries.proofs.SampleLemmas.{sample_stops, sample_is, sample_within}

-- ---- the sample that an engine gives

module _ (t : Tree) (p q : Point ℕ) (same : p ≡ q) (c d : atoms.Context) (is : d ≡ c) where
  -- an engine for the theory of the state gives a sample in it
  pub sample_there : (o : Option (Vec (VarId × Fraction) Global)) → IsTrueSample (context_of d) t p (sample_of o) → IsTrueSample (context_of c) t q (sample_of o)
  sample_there o h = subst (λ (x : atoms.Context). IsTrueSample (context_of x) t q (sample_of o)) is (subst (λ r. IsTrueSample (context_of d) t r (sample_of o)) same h)

  -- and what stops the reference sample there refuses it
  pub sample_stopped_there : (l m : Limits) → m ≡ l → (e : Measured) → StopsWith e (reference_sample (context_of d) m.nodes p t) → (x : StatementError) → x ≡ measured_refusal e → SampleStop (context_of c) l.nodes t q x
  sample_stopped_there l m limits e h x word =
      let there = subst (λ (y : Limits). StopsWith e (reference_sample (context_of d) y.nodes q t)) limits (subst (λ r. StopsWith e (reference_sample (context_of d) m.nodes r t)) same h) in
      (e, word, subst (λ (y : atoms.Context). StopsWith e (reference_sample (context_of y) l.nodes q t)) is there)

-- ---- after the formula and the point were read

module _ (old new : SessionState) (f : FormulaTree) (es : List PointEntry) (state : IsSessionState old) (numbers : HasNumbers old.names f) (k : KeepsState old new) (i : FormulaId) (p : Numbers)
    (a : IsAsked (state_of old) f es new i p) where
  abbrev s : State
  s = state_of old

  abbrev t : Tree
  t = resolve s.context (known s) s.names f

  -- what is said of the formula of the store, in the theory and at the names there
  here : (P : Context → Tree → List (List ℕ) → Type 0) → P (context_of new.context) (tree new.store i) new.names → P s.context t s.names
  here P h = subst (P s.context t) k.names (subst (λ (u : Tree). P s.context u new.names) a.made.same (subst (λ c. P c (tree new.store i) new.names) (theory old new f es state numbers k) h))

  -- the formula is at most 512 high
  low : height t ≤ most_height
  low = let e = resolving_keeps_height s.context (known s) s.names f in let flat : ¬ (most_height < height t) = (λ h. a.readable.flat (subst (λ n. most_height < n) e h)) in omega arith

  wanted : IsScripted f → (limit : ℕ) (o : Option (Vec (VarId × Fraction) Global)) → IsTrueSample s.context t (at_names s.names (point_of p)) (sample_of o) → IsWantedSample s limit f es (sample_of o)
  wanted proper limit o h = record {
    clear = λ printed. (a.clear limit printed).1;
    answer = record {
      point = point_of p;
      meant = a.meant;
      sampled = sample_is s f es (point_of p) numbers state.sound.names_once a.readable a.theory (asked_normal old new f es state numbers k i p a) o h;
    };
    within = sample_within s.context (length s.names) t (at_names s.names (point_of p)) (readable_formula f s numbers state.sound proper.proper a.readable) (sample_of o) h;
    short = sample_short s.context s.names t (at_names s.names (point_of p)) state.sound.variables low o h;
  }

  module _ (r : Result (Option (Vec (VarId × Fraction) Global)) StatementError) (limit : ℕ) where
    pub sample_told : IsScripted f → IfOk r (λ o. IsTrueSample (context_of new.context) (tree new.store i) (at_names new.names (point_of p)) (sample_of o)) → IfOk r (λ o. IsWantedSample s limit f es (sample_of o))
    sample_told proper h = ok_map r (λ o u. wanted proper limit o (here (λ c v ns. IsTrueSample c v (at_names ns (point_of p)) (sample_of o)) u)) h

    pub sample_stopped : IfErr r (SampleStop (context_of new.context) limit (tree new.store i) (at_names new.names (point_of p))) → IfErr r (RefusesSample s limit f es)
    sample_stopped h = err_map r (λ e u. sample_stops s f es (point_of p) a.meant a.clear limit e (here (λ c v ns. SampleStop c limit v (at_names ns (point_of p)) e) u)) h

-- ---- the names of the command

module _ (state : SessionState) (names : List (List ℕ)) (f : FormulaTree) (es : List PointEntry) (h : IsSessionState state) (grown : Grows state.names names)
    (is : names ≡ fold with_name state.names (formula_variables f ++ entry_names es)) (proper : IsScripted f) (proper_entries : AreWritableEntries es) (limit : ℕ) (printed : Bool) where
  abbrev first : SessionState
  first = named_session state names f es h grown is proper proper_entries

  -- what is said of the state where the variables have their numbers
  begun : (P : State → Type 0) → P (state_of first) → P (numbered (meaning (Sample f es)) (state_of state))
  begun P k = subst P (start state names f es h grown is proper proper_entries) k

  pub sample_refused : {E : Type 0} (r : Result E StatementError) → IfErr r (RefusesSample (state_of first) limit f es) → IfErr r (Refuses (numbered (meaning (Sample f es)) (state_of state)) limit (use_of None printed) (Sample f es))
  sample_refused r k = err_map r (λ e u. begun (λ s. Refuses s limit (use_of None printed) (Sample f es) e) (u printed)) k

  module _ (later : SessionState) (k : KeepsState first later) (sample : Option (List Value)) (w : IsWantedSample (state_of first) limit f es sample) (r : Result Line StatementError) where
    pub within_there : IsSampleWithin (length later.names) sample
    within_there = subst (λ ns. IsSampleWithin (length ns) sample) (sym k.names) w.within

    pub sample_answered : (after : List (List ℕ)) → IfOk r (IsLine printed (sample_text later.names sample)) → IfOk r (IsQueryAnswer (numbered (meaning (Sample f es)) (state_of state)) limit printed (Sample f es) after)
    sample_answered after l =
        ok_map r (λ line i. begun (λ s. IsQueryAnswer s limit printed (Sample f es) after line)
        (record { accepted = w.clear printed; text = sample_text names sample; told = (sample, w.answer, refl); line = subst (λ ns. IsLine printed (sample_text ns sample) line) k.names i })) l

    pub short_there : length (sample_text later.names sample) ≤ text_limit
    short_there = subst (λ ns. length (sample_text ns sample) ≤ text_limit) (sym k.names) w.short
