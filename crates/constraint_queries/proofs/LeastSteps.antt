-- From a problem that is read to what is answered.
use Rattle.std.specs.Prelude.{Result, Ok, Err, OnErr}
use Rattle.std.proofs.Common.{◌≡◌, inl, inr, ℕ, ◌+◌, ◌-◌, ◌<◌, ◌≤◌, List, [], ◌∷◌, ◌++◌, map, take, length, codes, Bool, None, sym, ap, ◌∙◌, subst, refl, arith, append-nil}
use Rattle.std.proofs.lemmas.List.{length-append, length-map}
use Rattle.std.specs.List.{IsDistinct, fold}
use Rattle.exact_numbers.specs.Fraction.{frac_of}
use Rattle.exact_numbers.specs.declared.fraction.Fraction.{Fraction}
use Rattle.logic_meaning.specs.declared.form.VarId.{VarId}
use Rattle.logic_meaning.specs.Context.{Fields}
use Rattle.logic_meaning.specs.Every.{Every}
use Rattle.logic_meaning.specs.Formula.{One}
use Rattle.logic_meaning.specs.Tree.{Tree}
use Rattle.logic_meaning.specs.declared.quantifier.Quantifier.TheVariants.{Exists}
use Rattle.normal_atoms.specs.Atoms.{context_of}
use Rattle.logic_meaning.specs.NormalForm.{IsNormal}
use Rattle.language_meaning.specs.declared.tree.Relation.TheVariants.{Equal}
use Rattle.language_meaning.specs.Trees.{TermTree, FormulaTree, FormulaTrees, Named, Compare}
use Rattle.language_meaning.specs.Value.{same_name}
use Rattle.written_syntax.specs.Valued.{IsIn}
use Rattle.written_syntax.specs.Writable.{IsWritableTerm, AreWritableFormulas}
use Rattle.written_syntax.proofs.EntryLists.{each_push}
use Rattle.written_syntax.specs.ConstraintLists.{AreWeakConstraints}
use Rattle.language_meaning.specs.Statements.{Least}
use Rattle.language_meaning.specs.QuantifiedNames.{quantified_names}
use Rattle.logic_meaning.specs.Writing.{text_limit}
use Rattle.form_commands.proofs.CaseLemmas.{length_3}
use Rattle.form_commands.proofs.ShortSamples.{AreShort, variables_short, fraction_short, point_short, as_many}
use Rattle.logic_meaning.specs.Names.{with_name, place}
use Rattle.form_commands.specs.Reading.{IsReadable}
use Rattle.session_state.proofs.VariableLemmas.{AllVariables}
use Rattle.session_state.proofs.NameLemmas.{place_below}
use Rattle.session_state.proofs.StateLemmas.{grows_then, grown_state, grown_session}
use Rattle.session_state.proofs.KnownLemmas.{known_formulas}
use Rattle.language_meaning.specs.Causes.{most_height, height_in_place}
use Rattle.language_meaning.specs.Resolving.{BoundTrees, formula_variables}
use Rattle.resolved_formulas.proofs.PlaceLaws.{after_has, after_distinct, in_either}
use Rattle.resolved_formulas.proofs.ResolvedTruth.{resolving_is_normal}
use Rattle.formula_store.specs.declared.id.FormulaId.{FormulaId}
use Rattle.formula_store.specs.Nodes.{tree}
use Rattle.sample_reference.specs.Seen.{values_of}
use Rattle.logic_meaning.specs.Values.{Value, value_names}
use Rattle.redlog_printer.specs.Within.{AreValuesWithin}
use Rattle.logic_meaning.specs.PointTexts.{fraction_text, point_text}
use Rattle.session_state.specs.Numbered.{numbered}
use Rattle.program_meaning.specs.declared.line.Line.{Line}
use Rattle.program_meaning.specs.declared.line.StatementError.{StatementError}
use Rattle.program_meaning.specs.Meaning.{meaning}
use Rattle.program_meaning.specs.Reply.{IsLine}
use Rattle.program_meaning.specs.State.{State, with_names, known}
use Rattle.program_meaning.specs.Targets.{target_name, together, problem_names, problem_of, resolved_problem, target_number, SaysLeast, target_text}
use Rattle.session_state.specs.declared.state.SessionState.{SessionState}
use Rattle.session_state.specs.Keeping.{state_of, IsSessionState}
use Rattle.session_state.specs.Growth.{KeepsState, GrowsState}
use Rattle.formula_resolving.specs.Numbering.{Grows}
use Rattle.form_commands.specs.Replies.{use_of, Refuses, IsQueryAnswer}
use Rattle.least_search.specs.declared.found.Found.{Found}
use Rattle.least_search.specs.declared.found.Found.TheVariants as found
use Rattle.least_search.specs.Found.{found_of, IsTargetFound}
use Rattle.constraint_queries.specs.Found.{IsWeakProblem, FoundStop}
use Rattle.constraint_queries.specs.LeastQueriesSteps.{HasNamesWithin, IsProblemIn, IsProblemUnread}
use Rattle.constraint_queries.proofs.Attained.{IsProblemRead, says_least}
use Rattle.constraint_queries.proofs.Problems.{weak_problem}
use Rattle.constraint_queries.proofs.ProblemNames.{grows_all, front, front_variables, last_is_target, count_is, target_is_last, given_back}
use Rattle.constraint_queries.proofs.LeastCauses.{after, numbers_after, readable_after, all_clear, found_stops, unread}

-- ---- texts

-- a problem is at least as high as it has names
names_low : (bound : BoundTrees) (xs : List (List ℕ)) (f : FormulaTree) → length xs ≤ height_in_place bound (quantified_names Exists xs f)
names_low bound [] f = omega arith
names_low bound (x ∷ xs) f = let h = names_low bound xs f in omega (arith, h)

-- values of names that stand in the list
values_in : (names : List (List ℕ)) (xs : List (List ℕ)) (values : List Value) → ((x : List ℕ) → IsIn x xs → IsIn x names) → value_names values ≡ map (place names) xs → AreValuesWithin (length names) values
values_in names xs [] h e = tt
values_in names [] (v ∷ vs) h e = absurd (cc)
values_in names (x ∷ xs) (v ∷ vs) h e =
    let here : v.name ≡ place names x = cc in
    let rest : value_names vs ≡ map (place names) xs = cc in
    (subst (λ n. n < length names) (sym here) (place_below names x (h x (inl refl))), values_in names xs vs (λ y i. h y (inr i)) rest)

-- with few values the text is short
text_short : (names : List (List ℕ)) → AreShort names → (least : Fraction) (vs : List (VarId × Fraction)) → length vs ≤ most_height
    → length (codes "{" ++ fraction_text (frac_of least) ++ codes "," ++ point_text names (values_of vs) ++ codes "}") ≤ text_limit
text_short names few least vs low =
    let value = fraction_text (frac_of least) in
    let point = point_text names (values_of vs) in
    let f = fraction_short least in
    let p = point_short names few vs in
    let a = length-append (codes "{" ++ value ++ codes "," ++ point) (codes "}") in
    let b = length-append (codes "{" ++ value ++ codes ",") point in
    let c = length_3 (codes "{") value (codes ",") in
    omega (arith, f, p, a, b, c, low)

-- ---- a problem that is not read

same_names : (old : State) (written : FormulaTrees) (target : TermTree) → numbered (meaning (Least written target)) old ≡ after old (problem_of written target)
same_names old written target =
    let xs = formula_variables (problem_of written target) in
    ap (λ ys. with_names old (fold with_name old.names ys)) (append-nil (xs ++ []) ∙ append-nil xs)

pub unread_refuses : (old : State) (written : FormulaTrees) (target : TermTree) (g : FormulaTree) → g ≡ problem_of written target → (limit : ℕ) (printed : Bool) (e : StatementError) → IsProblemUnread old g e
    → Refuses (numbered (meaning (Least written target)) old) limit (use_of None printed) (Least written target) e
unread_refuses old written target g is limit printed e h =
    subst (λ s. Refuses s limit (use_of None printed) (Least written target) e) (sym (same_names old written target))
    (unread old written target limit (use_of None printed) e (subst (λ k. IsProblemUnread old k e) is h))

-- ---- a problem that is read

-- what is known once it is
pub record IsAskedLeast (old mid : SessionState) (written : FormulaTrees) (target : TermTree) (id : FormulaId) : Type 0 where
  pub session : IsSessionState old
  pub proper : AreWritableFormulas written
  pub weak : AreWeakConstraints written
  pub target_proper : IsWritableTerm target
  pub grown : GrowsState old mid
  pub read : IsProblemIn old (problem_of written target) mid id

pub asked : (old mid : SessionState) (written : FormulaTrees) (target : TermTree) (g : FormulaTree) (id : FormulaId) → g ≡ problem_of written target → IsSessionState old
    → AreWritableFormulas written → AreWeakConstraints written → IsWritableTerm target → GrowsState old mid → IsProblemIn old g mid id → IsAskedLeast old mid written target id
asked old mid written target g id e session proper weak target_proper grown read =
    record { session = session; proper = proper; weak = weak; target_proper = target_proper; grown = grown; read = subst (λ h. IsProblemIn old h mid id) e read }

-- what holds, holds after an error
pub on_err : {T E P : Type 0} (r : Result T E) → P → OnErr r P
on_err (Ok x) h = tt
on_err (Err e) h = h

module _ (old mid : SessionState) (written : FormulaTrees) (target : TermTree) (id : FormulaId) (a : IsAskedLeast old mid written target id) where
  abbrev f : FormulaTree
  f = problem_of written target

  -- the state where the variables have their numbers
  abbrev s : State
  s = after (state_of old) f

  abbrev first : List (List ℕ)
  first = front old.names a.session.sound.variables written target a.proper a.target_proper

  fields : s.context ≡ Fields
  fields = a.read.fields

  readable : IsReadable s f
  readable = readable_after (state_of old) f a.read.readable

  resolved : tree mid.store id ≡ resolved_problem s written target
  resolved = a.read.made.same

  problem_read : IsProblemRead s written target
  problem_read = record {
    fields = fields;
    distinct = after_distinct (formula_variables f) old.names a.session.sound.names_once;
    numbered = numbers_after (state_of old) f;
    readable = readable;
    weak = a.weak;
    proper = a.proper;
    target_proper = a.target_proper;
  }

  pub theory_there : context_of mid.context ≡ Fields
  theory_there = ap context_of a.grown.context ∙ fields

  pub normal_there : Every (IsNormal Fields) (tree mid.store id)
  normal_there =
      subst (λ c. Every (IsNormal c) (tree mid.store id)) fields
      (subst (Every (IsNormal s.context)) (sym resolved) (resolving_is_normal s.context (known s) old.names f (λ x t e. (known_formulas (state_of old) a.session.sound x t e).normal) a.read.readable))

  pub weak_there : IsWeakProblem (tree mid.store id)
  weak_there = subst IsWeakProblem (sym resolved) (weak_problem s written target fields a.weak)

  count : length mid.names ≡ length first + 1
  count = ap length a.read.names ∙ count_is old.names a.session.sound.variables written target a.proper a.target_proper

  pub some_there : 1 ≤ length mid.names
  some_there = let e = count in omega (arith, e)

  last_is : length mid.names - 1 ≡ length first
  last_is = let e = count in omega (arith, e)

  target_is : length mid.names - 1 ≡ target_number s
  target_is = last_is ∙ sym (target_is_last old.names a.session.sound.variables written target a.proper a.target_proper)

  -- what is found of the resolved problem, said of the problem
  there : (P : ℕ → Tree → Type 0) → P (length mid.names - 1) (tree mid.store id) → P (target_number s) (resolved_problem s written target)
  there P h = subst (λ t. P (target_number s) t) resolved (subst (λ n. P n (tree mid.store id)) target_is h)

  -- ---- the search stops

  pub stop_refuses : (limit : ℕ) (printed : Bool) (e : StatementError) → FoundStop limit (length mid.names - 1) (tree mid.store id) e
      → Refuses (numbered (meaning (Least written target)) (state_of old)) limit (use_of None printed) (Least written target) e
  stop_refuses limit printed e h =
      subst (λ t. Refuses t limit (use_of None printed) (Least written target) e) (sym (same_names (state_of old) written target))
      (found_stops s written target (numbers_after (state_of old) f) limit (use_of None printed) fields readable e (there (λ z t. FoundStop limit z t e) h))

  -- ---- something is found

  module _ (r : Found) (is : IsTargetFound (length mid.names - 1) (tree mid.store id) (found_of r)) where
    said : SaysLeast s written target (found_of r)
    said = says_least s written target (found_of r) problem_read (there (λ z t. IsTargetFound z t (found_of r)) is)

    -- the names of the problem stand among those of the state
    own_names : (x : List ℕ) → IsIn x (problem_names written target) → IsIn x s.names
    own_names x i =
        subst (IsIn x) (sym (last_is_target old.names a.session.sound.variables written target a.proper a.target_proper))
        (in_either x first (target_name ∷ []) (inl (after_has (problem_names written target) old.names x (inr i))))

    names_short : AreShort s.names
    names_short =
        subst AreShort (sym (last_is_target old.names a.session.sound.variables written target a.proper a.target_proper))
        (each_push (λ (x : List ℕ). length x ≤ 64) first target_name (variables_short first (front_variables old.names a.session.sound.variables written target a.proper a.target_proper)) (omega arith))

    within_s : HasNamesWithin (length s.names) (found_of r)
    within_s = go r said
      where
        go : (q : Found) → SaysLeast s written target (found_of q) → HasNamesWithin (length s.names) (found_of q)
        go found.Infeasible h = tt
        go found.Unbounded h = tt
        go (found.Attained least values) h = values_in s.names (problem_names written target) (values_of values.items) own_names h.in_order

    short_s : length (target_text s.names (found_of r)) ≤ text_limit
    short_s = go r said
      where
        go : (q : Found) → SaysLeast s written target (found_of q) → length (target_text s.names (found_of q)) ≤ text_limit
        go found.Infeasible h = omega arith
        go found.Unbounded h = omega arith
        go (found.Attained least values) h =
            let many : length values.items ≡ length (problem_names written target) =
            sym (as_many values.items) ∙ ap length h.in_order ∙ length-map (problem_names written target) (place s.names) in
            let low = names_low (known s) (problem_names written target) (together (One (Compare Equal (Named target_name) target)) written) in
            let flat : ¬ (most_height < height_in_place (known s) f) = readable.flat in
            text_short s.names names_short least values.items (omega (arith, many, low, flat))

    module _ (later : SessionState) (k : KeepsState mid later) where
      names_later : later.names ≡ s.names
      names_later = k.names ∙ a.read.names

      pub within_there : HasNamesWithin (length later.names) (found_of r)
      within_there = subst (λ ns. HasNamesWithin (length ns) (found_of r)) (sym names_later) within_s

      pub short_there : length (target_text later.names (found_of r)) ≤ text_limit
      short_there = subst (λ ns. length (target_text ns (found_of r)) ≤ text_limit) (sym names_later) short_s

      pub line_told : (limit : ℕ) (printed : Bool) (line : Line) (names : List (List ℕ)) → IsLine printed (target_text later.names (found_of r)) line
          → IsQueryAnswer (numbered (meaning (Least written target)) (state_of old)) limit printed (Least written target) names line
      line_told limit printed line names l =
          subst (λ t. IsQueryAnswer t limit printed (Least written target) names line) (sym (same_names (state_of old) written target))
          (record {
            accepted = all_clear s written target (numbers_after (state_of old) f) limit (use_of None printed) fields readable refl;
            text = target_text s.names (found_of r);
            told = (found_of r, said, refl);
            line = subst (λ ns. IsLine printed (target_text ns (found_of r)) line) names_later l;
          })

  -- ---- the target's name is given back

  module _ (later : SessionState) (k : KeepsState mid later) (names : List (List ℕ)) (kept : names ≡ take (length mid.names - 1) later.names) where
    -- the state without it
    abbrev pub final : SessionState
    final = record { alloc = later.alloc; context = later.context; names = names; bindings = later.bindings; standing = later.standing; answers = later.answers; store = later.store; kept = later.kept }

    names_are : names ≡ first
    names_are =
        kept ∙ (λ i. take (last_is i) ((k.names ∙ a.read.names) i)) ∙ given_back old.names a.session.sound.variables written target a.proper a.target_proper

    grown_final : GrowsState old final
    grown_final =
        let g = grows_then old mid later a.grown k in
        record {
          context = g.context;
          names = subst (Grows old.names) (sym names_are) (grows_all (problem_names written target) old.names);
          bindings = g.bindings;
          standing = g.standing;
          answers = g.answers;
          store = g.store;
        }

    pub session_final : IsSessionState final
    session_final =
        grown_session old final a.session grown_final (subst (IsDistinct same_name) (sym names_are) (after_distinct (problem_names written target) old.names a.session.sound.names_once))
        (subst AllVariables (sym names_are) (front_variables old.names a.session.sound.variables written target a.proper a.target_proper))

    pub state_final : state_of final ≡ with_names (numbered (meaning (Least written target)) (state_of old)) names
    state_final = grown_state old final a.session.ids grown_final

    pub back_final : (numbered (meaning (Least written target)) (state_of old)).names ≡ names ++ target_name ∷ []
    back_final =
        ap (λ (t : State). t.names) (same_names (state_of old) written target) ∙ last_is_target old.names a.session.sound.variables written target a.proper a.target_proper
        ∙ ap (λ ns. ns ++ target_name ∷ []) (sym names_are)
