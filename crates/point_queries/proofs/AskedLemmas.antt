-- Why a command about a point is refused before anything is answered, and when it is not.
use Rattle.std.proofs.Common.{◌≡◌, inl, inr, ⊎_elim, ℕ, ◌≤◌, length, List, [], ◌∷◌, Bool, true, false, IsTrue, ◌↔◌, MatchOption, Option, Some, None, sym, ap, ◌∙◌, subst, refl, rules}
use Rattle.std.proofs.lemmas.Bool.{false≢true}
use Rattle.std.specs.Prelude.{option_map, is_some}
use Rattle.logic_meaning.specs.Formula.{none, also}
use Rattle.logic_meaning.specs.Some.{SomeOf, EachOf}
use Rattle.logic_meaning.specs.Tree.{Tree}
use Rattle.language_meaning.specs.declared.entries.PointEntry.{PointEntry}
use Rattle.language_meaning.specs.Point.{PassesLimit}
use Rattle.language_meaning.specs.Statements.{CommandTree, Holds, Sample}
use Rattle.language_meaning.specs.Trees.{FormulaTree}
use Rattle.logic_meaning.specs.Bindings.{bound_to}
use Rattle.language_meaning.specs.Causes.{IsBound, OverflowsInReading}
use Rattle.logic_meaning.specs.Names.{place}
use Rattle.language_meaning.specs.declared.static_error.StaticError.{StaticError}
use Rattle.language_meaning.specs.declared.static_error.StaticError.TheVariants as static
use Rattle.language_meaning.specs.Refusals as reading
use Rattle.formula_resolving.specs.FirstCause.{IsFirstCause}
use Rattle.formula_resolving.specs.BoundIds.{trees_bound}
use Rattle.formula_resolving.proofs.Answered.{beside}
use Rattle.language_meaning.specs.Answers.{with_inner}
use Rattle.program_meaning.specs.declared.line.StatementError.{StatementError}
use Rattle.program_meaning.specs.declared.line.StatementError.TheVariants as error
use Rattle.program_meaning.specs.State.{State, known}
use Rattle.program_meaning.specs.Points.{MeanNoPoint}
use Rattle.form_commands.specs.Replies.{use_of, Refuses}
use Rattle.form_commands.specs.Refusals.{static_refusal}
use Rattle.form_commands.specs.Reading.{HasNumbers, IsUnread, IsReadable, AreNumbered, AppliesAmong, IsBefore, HasNoEarlier, IsFirstAmong}
use Rattle.point_queries.specs.Asked.{Asks, RefusesAsking, RefusesBoth, AcceptsBoth, entry_names, stop_of, IsClear, PointStop, IsValued, ValuedStop}
use Rattle.program_meaning.specs.Meaning.{meaning, Meaning}
use Rattle.program_meaning.specs.Uses.{Use}
use Rattle.program_meaning.specs.Causes.{IsCause, HasNone, IsFirst}
use Rattle.program_meaning.specs.Words.{before, order}
use Rattle.formula_resolving.proofs.OrderFacts.{each_before}
use Rattle.form_commands.proofs.CauseLemmas.{then_clear, overflow_here, to_point, first_in_reading, bound_first, readable_none}

-- ---- names that are bound

module _ {Id : Type 0} (t : Id → Tree) (answers : List Tree) (bound : List (List ℕ × Id)) where
  -- beside the answers, a name of at most 64 bytes stands for what is bound to it
  pub some_found : (x : List ℕ) (o : Option Id) → o ≡ bound_to bound x → length x ≤ 64 → is_some o ≡ true → IsBound (with_inner answers (trees_bound t bound)) x
  some_found x None e l h = absurd (false≢true h)
  some_found x (Some i) e l h = (t i, beside t answers bound x l ∙ ap (option_map t) (sym e))

  pub none_found : (x : List ℕ) (o : Option Id) → o ≡ bound_to bound x → length x ≤ 64 → is_some o ≡ false → ¬ (IsBound (with_inner answers (trees_bound t bound)) x)
  none_found x None e l h k =
      let q = ap (option_map t) e ∙ sym (beside t answers bound x l) ∙ k.1 in
      absurd (cc)
  none_found x (Some i) e l h k = false≢true (sym h)

-- what is said of the name of some entry
pub some_name : (P : List ℕ → Type 0) (es : List PointEntry) → SomeOf (λ (e : PointEntry). P e.name) es ↔ SomeOf P (entry_names es)
some_name P [] = (λ h. h, λ h. h)
some_name P (e ∷ es) = let r = some_name P es in (λ h. ⊎_elim (λ p. inl p) (λ q. inr (r.0 q)) h, λ h. ⊎_elim (λ p. inl p) (λ q. inr (r.1 q)) h)

-- ---- both commands

pub truth_asks : (f : FormulaTree) (es : List PointEntry) → Asks f es (meaning (Holds f es))
truth_asks f es = record { formulas = refl; further = refl; context = λ s limit h. h }

pub sample_asks : (f : FormulaTree) (es : List PointEntry) → Asks f es (meaning (Sample f es))
sample_asks f es = record { formulas = refl; further = refl; context = λ s limit h. h }

-- what refuses each command that asks refuses both
pub asking_both : (s : State) (f : FormulaTree) (es : List PointEntry) (e : StatementError) → RefusesAsking s f es e → RefusesBoth s f es e
asking_both s f es e h = λ limit printed. (h (Holds f es) (truth_asks f es) limit printed, h (Sample f es) (sample_asks f es) limit printed)

module _ (s : State) (f : FormulaTree) (es : List PointEntry) (limit : ℕ) (printed : Bool) where
  abbrev asked : Use
  asked = use_of None printed

  abbrev of_truth : Meaning
  of_truth = meaning (Holds f es)

  abbrev of_sample : Meaning
  of_sample = meaning (Sample f es)

  -- a cause of one of the two commands is one of the other
  cause_of_truth : (e : StatementError) → IsCause of_sample s limit asked e → IsCause of_truth s limit asked e
  cause_of_truth error.Text h = (h.0, ⊎_elim (λ k. absurd k.determined) inr h.1)
  cause_of_truth _ h = h

  clear_of_sample : (ds : List StatementError) → HasNone of_truth s limit asked ds → HasNone of_sample s limit asked ds
  clear_of_sample [] h = tt
  clear_of_sample (d ∷ ds) h = (λ k. h.0 (cause_of_truth d k), clear_of_sample ds h.1)

  abbrev AreRefused : StatementError → Type 0
  AreRefused e = Refuses s limit asked (Holds f es) e × Refuses s limit asked (Sample f es) e

  -- so the first cause of one refuses both
  both_refused : (e : StatementError) → IsCause of_sample s limit asked e → HasNone of_truth s limit asked (before e) → AreRefused e
  both_refused e h first = (λ other. record { applies = inl (cause_of_truth e h); first = first }, λ other. record { applies = inl h; first = clear_of_sample (before e) first })

  out_of_memory : AreRefused error.Memory
  out_of_memory = (λ other. absurd (other refl), λ other. absurd (other refl))

module _ (s : State) (f : FormulaTree) (es : List PointEntry) (numbers : HasNumbers s.names f) where
  abbrev Bound : Type 0
  Bound = SomeOf (IsBound (known s)) (entry_names es)

  listed : AreNumbered s.names (also f none)
  listed = (numbers, tt)

  -- ---- each command that asks

  module _ (c : CommandTree) (asks : Asks f es (meaning c)) where
    abbrev m : Meaning
    m = meaning c

    numbered_there : AreNumbered s.names m.formulas
    numbered_there = subst (AreNumbered s.names) (sym asks.formulas) listed

    free_there : ¬ Bound → ¬ (SomeOf (IsBound (known s)) m.further)
    free_there free = subst (λ xs. ¬ (SomeOf (IsBound (known s)) xs)) (sym asks.further) free

    none_there : (d : StaticError) → HasNoEarlier s (also f none) d → HasNoEarlier s m.formulas d
    none_there d first = subst (λ fs. HasNoEarlier s fs d) (sym asks.formulas) first

    -- nothing comes before the point
    pub asking_below_point : IsClear s f es → (limit : ℕ) (printed : Bool) → HasNone m s limit (use_of None printed) (before error.Point)
    asking_below_point clear limit printed =
        to_point m s limit (use_of None printed) numbered_there (free_there clear.entries) (asks.context s limit) (none_there static.Overflow clear.reading)

    -- the first cause is the one of the reading
    asking_first : (d : StaticError) → IsBefore d static.Overflow → IsFirstAmong s (also f none) d → (IsBefore static.FormulaAsTerm d → ¬ Bound) → (limit : ℕ) (u : Use) → IsFirst m s limit u (static_refusal d)
    asking_first d l among free limit u =
        first_in_reading m s limit u numbered_there d l (subst (λ fs. IsFirstAmong s fs d) (sym asks.formulas) among) (λ k. free_there (free k)) (λ k. asks.context s limit)

    asking_bound : HasNoEarlier s (also f none) static.FormulaAsTerm → Bound → (limit : ℕ) (u : Use) → IsFirst m s limit u error.FormulaAsTerm
    asking_bound first h limit u = bound_first m s limit u numbered_there (none_there static.FormulaAsTerm first) (subst (SomeOf (IsBound (known s))) (sym asks.further) h)

  -- ---- what is clear

  abbrev IsTruthClear : StatementError → Type 0
  IsTruthClear e = (limit : ℕ) (printed : Bool) → HasNone (meaning (Holds f es)) s limit (use_of None printed) (before e)

  -- nothing comes before the point, the free names, the quantifiers or the numbers that pass the limit
  below_point : IsClear s f es → IsTruthClear error.Point
  below_point clear limit printed = asking_below_point (Holds f es) (truth_asks f es) clear limit printed

  below_unvalued : IsClear s f es → ¬ (MeanNoPoint s.context es) → IsTruthClear error.Unvalued
  below_unvalued clear point limit printed = then_clear (meaning (Holds f es)) s limit (use_of None printed) error.Point error.Unvalued refl (below_point clear limit printed) point

  below_overflow : IsClear s f es → ¬ (MeanNoPoint s.context es) → IsValued s f es → IsTruthClear error.Overflow
  below_overflow clear point valued limit printed =
      let quantified = then_clear (meaning (Holds f es)) s limit (use_of None printed) error.Unvalued error.Quantified refl (below_unvalued clear point limit printed) valued in
      then_clear (meaning (Holds f es)) s limit (use_of None printed) error.Quantified error.Overflow refl quantified (λ h. h)

  below_nodes : IsClear s f es → ¬ (MeanNoPoint s.context es) → IsValued s f es → ¬ (PassesLimit es) → IsReadable s f → IsTruthClear error.Nodes
  below_nodes clear point valued within readable limit printed =
      then_clear (meaning (Holds f es)) s limit (use_of None printed) error.Overflow error.Nodes refl (below_overflow clear point valued limit printed)
      (λ k. ⊎_elim (λ p. ⊎_elim readable.within absurd (overflow_here (meaning (Holds f es)) s limit (use_of None printed) listed p)) within k)

  -- a truth has no formula to bind or to print
  pub all_clear : IsClear s f es → ¬ (MeanNoPoint s.context es) → IsValued s f es → ¬ (PassesLimit es) → IsReadable s f → AcceptsBoth s f es
  all_clear clear point valued within readable limit printed =
      let m = meaning (Holds f es) in
      let u = use_of None printed in
      let bindings = then_clear m s limit u error.Nodes error.Bindings refl (below_nodes clear point valued within readable limit printed) (λ h. h) in
      let text = then_clear m s limit u error.Bindings error.Text refl bindings (λ k. ⊎_elim (λ p. p) (λ g. g.1) k) in
      let accepted = then_clear m s limit u error.Text error.Memory refl text (λ k. ⊎_elim (λ l. l.determined) (λ n. n) k.1) in
      (accepted, clear_of_sample s f es limit printed order accepted)

  -- ---- refusals

  pub no_point : IsClear s f es → (e : StatementError) → PointStop s.context es e → RefusesBoth s f es e
  no_point clear e (inl h) = subst (RefusesBoth s f es) (sym h.0) (λ limit printed. both_refused s f es limit printed error.Point h.1 (below_point clear limit printed))
  no_point clear e (inr h) = subst (RefusesBoth s f es) (sym h) (λ limit printed. out_of_memory s f es limit printed)

  pub not_valued : IsClear s f es → ¬ (MeanNoPoint s.context es) → (e : StatementError) → ValuedStop s f es e → RefusesBoth s f es e
  not_valued clear point e (inl h) = subst (RefusesBoth s f es) (sym h.0) (λ limit printed. both_refused s f es limit printed error.Unvalued h.1 (below_unvalued clear point limit printed))
  not_valued clear point e (inr h) = subst (RefusesBoth s f es) (sym h) (λ limit printed. out_of_memory s f es limit printed)

  pub reading_passes : IsClear s f es → ¬ (MeanNoPoint s.context es) → IsValued s f es → OverflowsInReading s.context (known s) (place s.names) f → RefusesBoth s f es error.Overflow
  reading_passes clear point valued h = λ limit printed. both_refused s f es limit printed error.Overflow (inl (inl h)) (below_overflow clear point valued limit printed)

  pub point_passes : IsClear s f es → ¬ (MeanNoPoint s.context es) → IsValued s f es → PassesLimit es → RefusesBoth s f es error.Overflow
  point_passes clear point valued h = λ limit printed. both_refused s f es limit printed error.Overflow (inr h) (below_overflow clear point valued limit printed)

  -- ---- a formula that is not read

  -- no cause before another applies to the formula alone
  alone : (e : StaticError) → EachOf (λ d. ¬ (reading.Applies s.context (known s) s.names f d)) (reading.before e) → HasNoEarlier s (also f none) e
  alone e first = none_alone (reading.before e) first
    where
      none_alone : (ds : List StaticError) → EachOf (λ d. ¬ (reading.Applies s.context (known s) s.names f d)) ds → EachOf (λ d. ¬ (AppliesAmong s (also f none) d)) ds
      none_alone [] h = tt
      none_alone (d ∷ ds) h = (⊎_elim h.0 absurd, none_alone ds h.1)

  -- the first cause is the one of the reading
  reading_first : (d : StaticError) → IsBefore d static.Overflow → reading.IsFirst s.context (known s) s.names f d → (IsBefore static.FormulaAsTerm d → ¬ Bound) → RefusesAsking s f es (static_refusal d)
  reading_first d l first free =
      let among : IsFirstAmong s (also f none) d = record { applies = inl first.applies; first = alone d first.first } in
      λ c asks limit printed other. asking_first c asks d l among free limit (use_of None printed)

  bound_before : ¬ (reading.Applies s.context (known s) s.names f static.Unbound) → Bound → RefusesAsking s f es error.FormulaAsTerm
  bound_before bound h = λ c asks limit printed other. asking_bound c asks (alone static.FormulaAsTerm (bound, tt)) h limit (use_of None printed)

  abbrev Stopped : Option StatementError → Type 0
  Stopped o = MatchOption o (IsClear s f es × OverflowsInReading s.context (known s) (place s.names) f) (RefusesAsking s f es)

  not_read : (d : StaticError) (met : Bool) → (IsTrue met ↔ Bound) → IsFirstCause s.context (known s) s.names f d → Stopped (stop_of (static_refusal d) met)
  not_read static.Unbound met is first = reading_first static.Unbound (search rules) first absurd
  not_read static.Memory met is first = λ c asks limit printed other. absurd (other refl)
  not_read static.FormulaAsTerm true is first = bound_before first.first.0 (is.0 refl)
  not_read static.Nonlinear true is first = bound_before first.first.0 (is.0 refl)
  not_read static.Division true is first = bound_before first.first.0 (is.0 refl)
  not_read static.CongruenceContext true is first = bound_before first.first.0 (is.0 refl)
  not_read static.Modulus true is first = bound_before first.first.0 (is.0 refl)
  not_read static.Depth true is first = bound_before first.first.0 (is.0 refl)
  not_read static.Overflow true is first = bound_before first.first.0 (is.0 refl)
  not_read static.FormulaAsTerm false is first = reading_first static.FormulaAsTerm (search rules) first (λ l. absurd (search rules))
  not_read static.Nonlinear false is first = reading_first static.Nonlinear (search rules) first (λ l h. false≢true (is.1 h))
  not_read static.Division false is first = reading_first static.Division (search rules) first (λ l h. false≢true (is.1 h))
  not_read static.CongruenceContext false is first = reading_first static.CongruenceContext (search rules) first (λ l h. false≢true (is.1 h))
  not_read static.Modulus false is first = reading_first static.Modulus (search rules) first (λ l h. false≢true (is.1 h))
  not_read static.Depth false is first = reading_first static.Depth (search rules) first (λ l h. false≢true (is.1 h))
  not_read static.Overflow false is first = (
    record { reading = alone static.Overflow first.first; entries = λ h. false≢true (is.1 h) },
    subst (λ ns. OverflowsInReading s.context (known s) (place ns) f) numbers first.applies,
  )

  pub unread_stops : (e : StatementError) (met : Bool) → (IsTrue met ↔ Bound) → IsUnread s f e → (o : Option StatementError) → o ≡ stop_of e met → Stopped o
  unread_stops e met is h o same = subst Stopped (sym (same ∙ ap (λ w. stop_of w met) h.1)) (not_read h.0 met is h.2)

  -- ---- a formula that is read

  pub read_clear : IsReadable s f → ¬ Bound → IsClear s f es
  read_clear a h = record { reading = alone static.Overflow (each_before (λ d. ¬ (reading.Applies s.context (known s) s.names f d)) static.Overflow (readable_none s f a)); entries = h }

  pub read_bound : IsReadable s f → Bound → RefusesAsking s f es error.FormulaAsTerm
  read_bound a h = bound_before a.bound_names h
