-- From step to step of the truths at the points of a grid.
use Rattle.std.proofs.Common.{◌≡◌, ◌↔◌, ℕ, ◌≤◌, List, ◌++◌, Bool, false, IsTrue, Option, Some, None, MatchOption, length, sym, ap, ◌∙◌, subst, arith}
use Rattle.std.specs.Prelude.{Result, IfOk, IfErr, OnOk, slice_get, option_map, unsigned_abs}
use Rattle.std.specs.List.{fold}
use Rattle.std.proofs.Math.IntN.{ℤ, pos}
use Rattle.std.proofs.lemmas.Bool.{false≢true}
use Rattle.std.proofs.lemmas.Option.{slice_get-map}
use Rattle.logic_meaning.specs.Context.{IsDenominator}
use Rattle.logic_meaning.specs.Point.{Point, Of}
use Rattle.logic_meaning.specs.Shape.{IsQuantifierFree}
use Rattle.logic_meaning.specs.Tree.{Tree, TrueAt}
use Rattle.normal_atoms.specs.Atoms.{context_of}
use Rattle.normal_atoms.proofs.Stepped.{ok_map}
use Rattle.language_meaning.specs.declared.entries.PointEntry.{PointEntry}
use Rattle.language_meaning.specs.Trees.{FormulaTree}
use Rattle.language_meaning.specs.Value as written
use Rattle.language_meaning.specs.declared.grid.GridAxis.{GridAxis}
use Rattle.language_meaning.specs.Statements.{Grid}
use Rattle.written_syntax.specs.StatementSyntaxWritable.{AreWritableAxes}
use Rattle.logic_meaning.specs.Replaced.{replaced}
use Rattle.language_meaning.specs.Causes.{OverflowsInReading, atom_in_place}
use Rattle.logic_meaning.specs.Quantified.{has_quantifier}
use Rattle.formula_tree.specs.Makers.{IsMade}
use Rattle.logic_meaning.specs.Names.{with_name, place}
use Rattle.language_meaning.specs.Resolving.{formula_variables, resolve, bound_truth}
use Rattle.formula_resolving.specs.Numbering.{Grows}
use Rattle.formula_store.specs.declared.id.FormulaId.{FormulaId}
use Rattle.formula_store.specs.Nodes.{tree, IsId}
use Rattle.formula_store.specs.Truths.{Tells, IsWholeWhereAsked}
use Rattle.program_meaning.specs.Frames.{Frame, most_points, points_of, point_over}
use Rattle.point_grid.specs.FramePoints.{IsFrame}
use Rattle.program_meaning.specs.Scales.{choices}
use Rattle.program_meaning.specs.GridPoints.{grid_of}
use Rattle.point_grid.specs.Truths.{IsTruthList}
use Rattle.point_grid.proofs.Numbering.{points_are_counted}
use Rattle.program_meaning.specs.declared.line.Line.{Line}
use Rattle.program_meaning.specs.declared.line.StatementError.{StatementError}
use Rattle.program_meaning.specs.declared.line.StatementError.TheVariants as error
use Rattle.program_meaning.specs.State.{State, known}
use Rattle.program_meaning.specs.Grids.{lows, MeanNoGrid, IsGridAnswer, grid_text}
use Rattle.program_meaning.specs.Meaning.{meaning}
use Rattle.session_state.specs.Numbered.{numbered}
use Rattle.program_meaning.specs.Reply.{IsLine}
use Rattle.form_commands.specs.Replies.{use_of, Refuses, IsQueryAnswer}
use Rattle.program_meaning.specs.Places.{by_names}
use Rattle.program_meaning.specs.Points.{IsQuantified}
use Rattle.session_state.specs.declared.state.SessionState.{SessionState}
use Rattle.session_state.specs.Growth.{KeepsState}
use Rattle.session_state.specs.Keeping.{state_of, IsSessionState}
use Rattle.session_state.specs.Scripted.{IsScripted}
use Rattle.form_commands.proofs.CaseLemmas.{err_map}
use Rattle.form_commands.proofs.FromEngineAnswers.{whole_where_asked}
use Rattle.form_commands.specs.Reading.{HasNumbers, IsReadable}
use Rattle.form_commands.proofs.ReadLemmas.{readable_formula}
use Rattle.point_queries.specs.Asked.{HaveNumbers, entry_names, IsClear, IsReadAs, IsValued, ValuedStop}
use Rattle.point_queries.specs.GridSteps.{RefusesGrid, AcceptsGrid, AxesStop, IsMeantGrid, NoGrid, TruthsStop}
use Rattle.point_queries.proofs.AskedSteps.{same, theory, there_not, named_session, start, session_named, numbers_there, entries_there, state_later, session_later}
use Rattle.point_queries.proofs.AxisLemmas.{lows_proper, common_of_theory}
use Rattle.point_queries.proofs.CaseSteps.{on_ok}
use Rattle.point_queries.proofs.GridCauses.{no_grid, names_unvalued, grid_quantified, grid_unread, grid_stops, grid_accepted, truths_stop}
use Rattle.point_queries.proofs.NamedTruth.{named_truth}
use Rattle.point_queries.proofs.PointLemmas.{resolved_free}
use Rattle.point_queries.proofs.TruthLemmas.{told_in}

-- ---- points

-- each point of a grid is over its denominator
point_below : (grid : Frame) (i : ℕ) (p : Point ℕ) → slice_get (points_of grid) i ≡ Some p → p.below ≡ unsigned_abs grid.denominator
point_below grid i p e = go (slice_get (choices (λ _. pos 0) grid.scales) i) (sym (slice_get-map (point_over grid.denominator) (choices (λ _. pos 0) grid.scales) i) ∙ e)
  where
    go : (o : Option (ℕ → ℤ)) → option_map (point_over grid.denominator) o ≡ Some p → p.below ≡ unsigned_abs grid.denominator
    go None f = absurd (cc)
    go (Some numbers) f = let q : point_over grid.denominator numbers ≡ p = cc in ap (λ (r : Point ℕ). r.below) (sym q)

-- so many truths as a grid may have points
pub few_truths : (t : Tree) (grid : Frame) (points : ℕ) (truths : List Bool) → IsFrame grid points → IsTruthList t (points_of grid) truths → length truths ≤ most_points
few_truths t grid points truths frame list =
    let counted = points_are_counted grid in
    let all = list.count in
    let number = frame.counted in
    let few = frame.few in
    omega (arith, counted, all, number, few)

module _ (old new : SessionState) (f : FormulaTree) (axes : List GridAxis) (es : List PointEntry) (are : es ≡ lows axes) (state : IsSessionState old) (numbers : HasNumbers old.names f) (k : KeepsState old new) (limit : ℕ)
    (id : Option FormulaId) (read : IsReadAs (state_of old) f es new id) where
  abbrev s : State
  s = state_of old

  abbrev t : Tree
  t = resolve s.context (known s) s.names f

  same_state : state_of new ≡ s
  same_state = same old new f es state numbers k

  same_theory : context_of new.context ≡ s.context
  same_theory = theory old new f es state numbers k

  clear : IsClear s f (lows axes)
  clear = subst (IsClear s f) are read.clear

  pub axes_stop : (e : StatementError) → AxesStop (context_of new.context) axes e → RefusesGrid s limit f axes e
  axes_stop e h = no_grid s f axes numbers clear limit e (subst (λ c. AxesStop c axes e) same_theory h)

  module _ (meant : ¬ (MeanNoGrid (context_of new.context) axes)) where
    meant_here : ¬ (MeanNoGrid s.context axes)
    meant_here = subst (λ c. ¬ (MeanNoGrid c axes)) same_theory meant

    pub names_stop : (e : StatementError) → ValuedStop (state_of new) f es e → RefusesGrid s limit f axes e
    names_stop e h = names_unvalued s f axes numbers clear meant_here limit e (subst (λ u. ValuedStop u f (lows axes) e) same_state (subst (λ xs. ValuedStop (state_of new) f xs e) are h))

    module _ (valued : IsValued (state_of new) f es) where
      valued_here : IsValued s f (lows axes)
      valued_here = subst (λ u. IsValued u f (lows axes)) same_state (subst (IsValued (state_of new) f) are valued)

      pub quantifier_stops : IsQuantified (known (state_of new)) f → RefusesGrid s limit f axes error.Quantified
      quantifier_stops h = grid_quantified s f axes numbers clear meant_here valued_here limit (subst (λ (u : State). IsQuantified (known u) f) same_state h)

      module _ (free : false ≡ has_quantifier (replaced (atom_in_place (known (state_of new))) (λ x. 0) f)) where
        free_here : ¬ (IsQuantified (known s) f)
        free_here = subst (λ (u : State). ¬ (IsQuantified (known u) f)) same_state (λ h. false≢true (free ∙ h))

        pub reading_stops : ((i : FormulaId) → ¬ (id ≡ Some i)) → RefusesGrid s limit f axes error.Overflow
        reading_stops none = grid_unread s f axes numbers clear meant_here valued_here free_here limit (there_not _ _ id none read.formula)

        module _ (i : FormulaId) (id_is : id ≡ Some i) where
          formula : IsReadable s f × IsMade (IsId new.store) (tree new.store) i t
          formula = subst (λ o. MatchOption o (OverflowsInReading s.context (known s) (place s.names) f) (λ j. IsReadable s f × IsMade (IsId new.store) (tree new.store) j t)) id_is read.formula

          pub grid_refused : (e : StatementError) → NoGrid (place new.names) axes e → RefusesGrid s limit f axes e
          grid_refused e h = grid_stops s f axes numbers clear meant_here valued_here free_here formula.0 limit e (subst (λ ns. NoGrid (place ns) axes e) k.names h)

          pub id_there : IsId new.store i
          id_there = formula.1.is

          pub free_there : IsQuantifierFree (tree new.store i)
          free_there = subst (λ (u : Tree). IsQuantifierFree u) (sym formula.1.same) (resolved_free s.context (known s) s.names f free_here)

          module _ (grid : Frame) (made : IsMeantGrid (place new.names) axes grid) where
            made_here : IsMeantGrid (place s.names) axes grid
            made_here = subst (λ ns. IsMeantGrid (place ns) axes grid) k.names made

            module _ (proper : IsScripted f) (proper_axes : AreWritableAxes axes) where
              of_theory : IsDenominator s.context (unsigned_abs grid.denominator)
              of_theory =
                  subst (λ (g : Frame). IsDenominator s.context (unsigned_abs g.denominator)) (sym made_here.same)
                  (common_of_theory s.context (place s.names) axes made_here.axes proper_axes meant_here made_here.meant)

              pub whole_there : (points : ℕ) → IsFrame grid points → IsWholeWhereAsked (tree new.store i) grid.denominator
              whole_there points frame =
                  subst (λ (u : Tree). IsWholeWhereAsked u grid.denominator) (sym formula.1.same)
                  (whole_where_asked s.context t grid.denominator (readable_formula f s numbers state.sound proper.proper formula.0).normal frame.positive of_theory)

              -- the truth that is told at a point is that of the written formula there
              told_there : (p : Point ℕ) (b : Bool) → Of s.context p → Tells b (tree new.store i) p → IsTrue b ↔ written.TrueAt (bound_truth s.context (known s) s.names) s.context f (by_names s.names p)
              told_there p b of told =
                  let here : IsTrue b ↔ TrueAt s.context t p = told_in s.context b t p (subst (λ (u : Tree). Tells b u p) formula.1.same told) in
                  let same_truth = named_truth s f numbers state.sound proper formula.0 p of in
                  (λ h. same_truth.1 (here.0 h), λ h. here.1 (same_truth.0 h))

              answered : (truths : List Bool) → IsTruthList (tree new.store i) (points_of grid) truths → IsGridAnswer s f axes truths
              answered truths list = record {
                axes = made_here.axes;
                meant = made_here.meant;
                count = list.count ∙ ap (λ (g : Frame). length (points_of g)) made_here.same;
                each = λ n p b at_p at_b.
                    let point : slice_get (points_of grid) n ≡ Some p = subst (λ (g : Frame). slice_get (points_of g) n ≡ Some p) (sym made_here.same) at_p in
                    told_there p b (subst (IsDenominator s.context) (sym (point_below grid n p point)) of_theory) (list.each n p b point at_b);
              }

              module _ {V : Type 0} (items : V → List Bool) (r : Result V StatementError) where
                pub truths_told : IfOk r (λ v. IsTruthList (tree new.store i) (points_of grid) (items v)) → IfOk r (λ v. IsGridAnswer s f axes (items v))
                truths_told h = ok_map r (λ v list. answered (items v) list) h

                pub truths_few : (points : ℕ) → IsFrame grid points → IfOk r (λ v. IsTruthList (tree new.store i) (points_of grid) (items v)) → IfOk r (λ v. length (items v) ≤ most_points)
                truths_few points frame h = ok_map r (λ v list. few_truths (tree new.store i) grid points (items v) frame list) h

                pub truths_accepted : OnOk r (AcceptsGrid s f axes)
                truths_accepted = on_ok r (grid_accepted s f axes numbers clear meant_here valued_here free_here formula.0 made_here.within made_here.few)

                pub truths_refused : IfErr r (TruthsStop (tree new.store i) grid) → IfErr r (RefusesGrid s limit f axes)
                truths_refused h =
                    err_map r (λ e u. truths_stop s f axes numbers clear meant_here valued_here free_here formula.0 made_here.within made_here.few limit made_here.axes made_here.meant e
                    (subst (λ (v : Tree). TruthsStop v (grid_of made_here.axes) e) formula.1.same (subst (λ (g : Frame). TruthsStop (tree new.store i) g e) made_here.same u))) h

-- ---- the names of the command

module _ (state : SessionState) (names : List (List ℕ)) (f : FormulaTree) (axes : List GridAxis) (es : List PointEntry) (are : es ≡ lows axes) (h : IsSessionState state) (grown : Grows state.names names)
    (is : names ≡ fold with_name state.names (formula_variables f ++ entry_names es)) (proper : IsScripted f) (proper_axes : AreWritableAxes axes) where
  pub numbered_lows : names ≡ fold with_name state.names (formula_variables f ++ entry_names (lows axes))
  numbered_lows = subst (λ xs. names ≡ fold with_name state.names (formula_variables f ++ entry_names xs)) are is

  -- the state where the variables of the command have their numbers
  abbrev first : SessionState
  first = named_session state names f (lows axes) h grown numbered_lows proper (lows_proper axes proper_axes)

  pub first_session : IsSessionState first
  first_session = session_named state names f (lows axes) h grown numbered_lows proper (lows_proper axes proper_axes)

  pub first_numbers : HasNumbers names f
  first_numbers = numbers_there state names f (lows axes) h grown numbered_lows proper (lows_proper axes proper_axes)

  pub first_entries : (xs : List PointEntry) → xs ≡ lows axes → HaveNumbers names xs
  first_entries xs same = subst (HaveNumbers names) (sym same) (entries_there state names f (lows axes) h grown numbered_lows proper (lows_proper axes proper_axes))

  -- what is said of it is said of the state that the meaning of the command has
  begun : (P : State → Type 0) → P (state_of first) → P (numbered (meaning (Grid f axes)) (state_of state))
  begun P k = subst P (start state names f (lows axes) h grown numbered_lows proper (lows_proper axes proper_axes)) k

  pub command_refused : {E : Type 0} (r : Result E StatementError) (limit : ℕ) (printed : Bool) → IfErr r (RefusesGrid (state_of first) limit f axes)
      → IfErr r (Refuses (numbered (meaning (Grid f axes)) (state_of state)) limit (use_of None printed) (Grid f axes))
  command_refused r limit printed k = err_map r (λ e u. begun (λ s. Refuses s limit (use_of None printed) (Grid f axes) e) (u printed)) k

  pub command_answered : (r : Result Line StatementError) (limit : ℕ) (printed : Bool) (truths said : List Bool) → IsGridAnswer (state_of first) f axes truths → AcceptsGrid (state_of first) f axes → said ≡ truths
      → IfOk r (IsLine printed (grid_text said)) → (after : List (List ℕ)) → IfOk r (IsQueryAnswer (numbered (meaning (Grid f axes)) (state_of state)) limit printed (Grid f axes) after)
  command_answered r limit printed truths said answer accepted same k after =
      ok_map r (λ line l. begun (λ s. IsQueryAnswer s limit printed (Grid f axes) after line)
      (record { accepted = accepted limit printed; text = grid_text said; told = (truths, answer, ap grid_text same); line = l })) k

  module _ (later : SessionState) (k : KeepsState first later) {E : Type 0} (r : Result E StatementError) where
    pub command_next : OnOk r (state_of later ≡ numbered (meaning (Grid f axes)) (state_of state))
    command_next = state_later state names f (lows axes) h grown numbered_lows proper (lows_proper axes proper_axes) later k r

    pub command_session : OnOk r (IsSessionState later)
    command_session = session_later state names f (lows axes) h grown numbered_lows proper (lows_proper axes proper_axes) later k r
