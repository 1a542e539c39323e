-- Why the query about a target is refused, and when it is not.
use Rattle.std.proofs.Common.{◌≡◌, ◌≢◌, inl, inr, ⊎_elim, ℕ, List, [], ◌∷◌, None, sym, ap, ◌∙◌, subst, refl, rules}
use Rattle.logic_meaning.specs.Context.{Context, Fields, Integers}
use Rattle.logic_meaning.specs.Formula.{none, also}
use Rattle.logic_meaning.specs.Measured.{Overflow, Nodes, stopped}
use Rattle.logic_meaning.specs.Some.{EachOf}
use Rattle.logic_meaning.specs.Reference.{reference}
use Rattle.logic_meaning.specs.ReferenceSample.{reference_sample}
use Rattle.exact_numbers.specs.Frac.{Frac}
use Rattle.logic_meaning.specs.LeastFraction.{IsLeastFraction}
use Rattle.language_meaning.specs.Trees.{TermTree, FormulaTree, FormulaTrees}
use Rattle.language_meaning.specs.Statements.{Least}
use Rattle.language_meaning.specs.Causes.{IsNonlinear, Divides, IsBadModulus, OverflowsInReading}
use Rattle.language_meaning.specs.Resolving.{formula_variables}
use Rattle.logic_meaning.specs.Names.{place}
use Rattle.language_meaning.specs.NamesAfter.{names_after}
use Rattle.resolved_formulas.proofs.PlaceLaws.{after_has}
use Rattle.language_meaning.specs.declared.static_error.StaticError.{StaticError}
use Rattle.language_meaning.specs.declared.static_error.StaticError.TheVariants as static
use Rattle.language_meaning.specs.Refusals as reading
use Rattle.formula_resolving.specs.FirstCause.{IsFirstCause}
use Rattle.reference_engine.specs.declared.measured.Measured.{Measured}
use Rattle.reference_engine.specs.declared.measured.Measured.TheVariants as measured
use Rattle.reference_engine.specs.Told.{StopsWith}
use Rattle.program_meaning.specs.declared.line.StatementError.{StatementError}
use Rattle.program_meaning.specs.Causes.{HasNoRoom, HasLongLine, HasNone, IsAccepted, IsFirst}
use Rattle.program_meaning.specs.Meaning.{Meaning, no_causes, meaning}
use Rattle.program_meaning.specs.State.{State, with_names, known}
use Rattle.program_meaning.specs.Targets.{problem_of, resolved_problem, target_number, at_target, TargetStops}
use Rattle.program_meaning.specs.Uses.{Use}
use Rattle.program_meaning.specs.Words.{before}
use Rattle.program_meaning.specs.declared.line.StatementError.TheVariants as error
use Rattle.form_commands.specs.Refusals.{static_refusal, measured_refusal}
use Rattle.form_commands.specs.Reading.{HasNumbers, IsReadable, AreNumbered, AppliesAmong, HasNoEarlier, IsFirstAmong}
use Rattle.form_commands.proofs.CauseLemmas.{HasNoPoint, then_clear, to_point, first_in_reading, unread_refuses, ready_below, readable_below, below_bindings, readable_applies}
use Rattle.session_state.proofs.NameLemmas.{kept_names}
use Rattle.constraint_queries.specs.Found.{ConditionStop, FoundStop}
use Rattle.constraint_queries.specs.LeastQueriesSteps.{cause_of, IsProblemUnread}

-- ---- where the variables of a formula have their numbers

module _ (old : State) (f : FormulaTree) where
  -- the state with the variables of the formula
  abbrev pub after : State
  after = with_names old (names_after old.names f)

  pub numbers_after : HasNumbers after.names f
  numbers_after = kept_names (formula_variables f) (names_after old.names f) (λ x i. after_has (formula_variables f) old.names x (inr i))

  applies_after : (d : StaticError) → reading.Applies old.context (known old) old.names f d → reading.Applies old.context (known old) after.names f d
  applies_after static.Unbound h = h
  applies_after static.FormulaAsTerm h = h
  applies_after static.Nonlinear h = subst (λ ns. IsNonlinear old.context (place ns) f) (sym numbers_after) h
  applies_after static.Division h = subst (λ ns. Divides old.context (place ns) f) (sym numbers_after) h
  applies_after static.CongruenceContext h = h
  applies_after static.Modulus h = subst (λ ns. IsBadModulus old.context (place ns) f) (sym numbers_after) h
  applies_after static.Depth h = h
  applies_after static.Overflow h = subst (λ ns. OverflowsInReading old.context (known old) (place ns) f) (sym numbers_after) h
  applies_after static.Memory h = h

  applies_before : (d : StaticError) → reading.Applies old.context (known old) after.names f d → reading.Applies old.context (known old) old.names f d
  applies_before static.Unbound h = h
  applies_before static.FormulaAsTerm h = h
  applies_before static.Nonlinear h = subst (λ ns. IsNonlinear old.context (place ns) f) numbers_after h
  applies_before static.Division h = subst (λ ns. Divides old.context (place ns) f) numbers_after h
  applies_before static.CongruenceContext h = h
  applies_before static.Modulus h = subst (λ ns. IsBadModulus old.context (place ns) f) numbers_after h
  applies_before static.Depth h = h
  applies_before static.Overflow h = subst (λ ns. OverflowsInReading old.context (known old) (place ns) f) numbers_after h
  applies_before static.Memory h = h

  pub readable_after : IsReadable old f → IsReadable after f
  readable_after h = record {
    bound_names = h.bound_names;
    variables = h.variables;
    linear = λ k. h.linear (applies_before static.Nonlinear k);
    undivided = λ k. h.undivided (applies_before static.Division k);
    congruences = h.congruences;
    moduli = λ k. h.moduli (applies_before static.Modulus k);
    flat = h.flat;
    within = λ k. h.within (applies_before static.Overflow k);
  }

  none_after : (ds : List StaticError) → EachOf (λ d. ¬ (reading.Applies old.context (known old) old.names f d)) ds → EachOf (λ d. ¬ (AppliesAmong after (also f none) d)) ds
  none_after [] h = tt
  none_after (d ∷ ds) h = (⊎_elim (λ k. h.0 (applies_before d k)) (λ k. k), none_after ds h.1)

  first_one : (d : StaticError) → reading.IsFirst old.context (known old) old.names f d → IsFirstAmong after (also f none) d
  first_one d h = record { applies = inl (applies_after d h.applies); first = none_after (reading.before d) h.first }

  -- the first cause of the formula is the first there
  pub first_after : (d : StaticError) → d ≢ static.Memory → IsFirstCause old.context (known old) old.names f d → IsFirstAmong after (also f none) d
  first_after static.Unbound n h = first_one static.Unbound h
  first_after static.FormulaAsTerm n h = first_one static.FormulaAsTerm h
  first_after static.Nonlinear n h = first_one static.Nonlinear h
  first_after static.Division n h = first_one static.Division h
  first_after static.CongruenceContext n h = first_one static.CongruenceContext h
  first_after static.Modulus n h = first_one static.Modulus h
  first_after static.Depth n h = first_one static.Depth h
  first_after static.Overflow n h = first_one static.Overflow h
  first_after static.Memory n h = absurd (n refl)

-- ---- the causes of the query

module _ (s : State) (written : FormulaTrees) (target : TermTree) (numbers : HasNumbers s.names (problem_of written target)) (limit : ℕ) (u : Use) where
  abbrev f : FormulaTree
  f = problem_of written target

  abbrev m : Meaning
  m = meaning (Least written target)

  -- the same query without causes of its own
  abbrev bare : Meaning
  bare = record m { must = no_causes }

  listed : AreNumbered s.names (also f none)
  listed = (numbers, tt)

  refuses_theory : s.context ≡ Integers → HasNone m s limit u (before error.Context) → IsFirst m s limit u error.Context
  refuses_theory e first = record { applies = inl e; first = first }

  -- what is looked for before the theory has nothing to do with the causes of its own
  from_point : HasNoEarlier s (also f none) static.Overflow → HasNone m s limit u (before error.Context)
  from_point first =
      let h = to_point bare s limit u listed (λ k. k) (λ k. k) first in
      (h.0, (h.1.0, (h.1.1.0, (h.1.1.1.0, (h.1.1.1.1.0, (h.1.1.1.1.1.0, (h.1.1.1.1.1.1.0, (h.1.1.1.1.1.1.1.0, (h.1.1.1.1.1.1.1.1.0, tt)))))))))

  from_modulus : IsFirstAmong s (also f none) static.Modulus → HasNone m s limit u (before error.Context)
  from_modulus first =
      let h = (first_in_reading bare s limit u listed static.Modulus (search rules) first (λ l k. k) (λ l k. k)).first in
      (h.0, (h.1.0, (h.1.1.0, (h.1.1.1.0, (h.1.1.1.1.0, (h.1.1.1.1.1.0, (h.1.1.1.1.1.1.0, (h.1.1.1.1.1.1.1.0, (h.1.1.1.1.1.1.1.1.0, tt)))))))))

  from_depth : IsFirstAmong s (also f none) static.Depth → HasNone m s limit u (before error.Context)
  from_depth first =
      let h = (first_in_reading bare s limit u listed static.Depth (search rules) first (λ l k. k) (λ l k. k)).first in
      (h.0, (h.1.0, (h.1.1.0, (h.1.1.1.0, (h.1.1.1.1.0, (h.1.1.1.1.1.0, (h.1.1.1.1.1.1.0, (h.1.1.1.1.1.1.1.0, (h.1.1.1.1.1.1.1.1.0, tt)))))))))

  -- over the integers the theory comes before what is looked for behind congruences
  unread_integers : s.context ≡ Integers → (d : StaticError) → d ≢ static.Memory → IsFirstAmong s (also f none) d → IsFirst m s limit u (cause_of Integers d)
  unread_integers e static.Unbound n h = first_in_reading m s limit u listed static.Unbound (search rules) h (λ l k. k) (λ l. absurd l)
  unread_integers e static.FormulaAsTerm n h = first_in_reading m s limit u listed static.FormulaAsTerm (search rules) h (λ l k. k) (λ l. absurd (search rules))
  unread_integers e static.Nonlinear n h = first_in_reading m s limit u listed static.Nonlinear (search rules) h (λ l k. k) (λ l. absurd (search rules))
  unread_integers e static.Division n h = first_in_reading m s limit u listed static.Division (search rules) h (λ l k. k) (λ l. absurd (search rules))
  unread_integers e static.CongruenceContext n h = first_in_reading m s limit u listed static.CongruenceContext (search rules) h (λ l k. k) (λ l. absurd (search rules))
  unread_integers e static.Modulus n h = refuses_theory e (from_modulus h)
  unread_integers e static.Depth n h = refuses_theory e (from_depth h)
  unread_integers e static.Overflow n h = refuses_theory e (from_point h.first)
  unread_integers e static.Memory n h = absurd (n refl)

  -- all that is read, over the integers
  read_integers : s.context ≡ Integers → IsReadable s f → IsFirst m s limit u error.Context
  read_integers e readable =
      let h = readable_applies s (also f none) (readable, tt) in
      refuses_theory e (from_point (h.0, (h.1.0, (h.1.1.0, (h.1.1.1.0, (h.1.1.1.1.0, (h.1.1.1.1.1.0, (h.1.1.1.1.1.1.0, tt))))))))

  module _ (fields : s.context ≡ Fields) where
    suits : ¬ (s.context ≡ Integers)
    suits e = let i = sym fields ∙ e in absurd (cc)

    plain : HasNoPoint m s limit
    plain = record { further = refl; context = suits; point = λ k. k; unvalued = λ k. k; nodes = λ k. k }

    unread_fields : (d : StaticError) → d ≢ static.Memory → IsFirstAmong s (also f none) d → static_refusal d ≢ error.Memory → IsFirst m s limit u (static_refusal d)
    unread_fields d n h other = unread_refuses m s limit u listed plain (static_refusal d) (λ p k. k) (d, refl, λ q. h) other

    module _ (readable : IsReadable s f) where
      -- the reference elimination stops, or the sample does
      pub overflows : TargetStops written target Overflow s limit → IsFirst m s limit u error.Overflow
      overflows h = record { applies = inr (λ k. k, h); first = ready_below m s limit u listed plain (readable, tt) (λ k. k) }

      pub passes_nodes : TargetStops written target Nodes s limit → IsFirst m s limit u error.Nodes
      passes_nodes h = record { applies = inr (λ k. k, h); first = readable_below m s limit u listed plain (readable, tt) (λ k. k) (λ k. k) }

      -- no cause applies
      pub all_clear : u.target ≡ None → IsAccepted m s limit u
      all_clear t =
          let nodes = readable_below m s limit u listed plain (readable, tt) (λ k. k) (λ k. k) in
          let bindings = below_bindings m s limit u listed plain nodes in
          let text = then_clear m s limit u error.Bindings error.Text refl bindings (λ b. elim b [ inl r ↦ subst (HasNoRoom s.bound) t r | inr l ↦ l.1 ]) in
          then_clear m s limit u error.Text error.Memory refl text (λ l. ⊎_elim (λ (h : HasLongLine m s u). h.determined) (λ x. x) l.1)

      at : (P : Context → Type 0) → P Fields → P s.context
      at P h = subst P (sym fields) h

      condition_stops : (d : Measured) → StopsWith d (reference Fields limit (resolved_problem s written target)) → measured_refusal d ≢ error.Memory → IsFirst m s limit u (measured_refusal d)
      condition_stops measured.Overflow k other = overflows (inl (at (λ c. reference c limit (resolved_problem s written target) ≡ stopped Overflow) k))
      condition_stops measured.Nodes k other = passes_nodes (inl (at (λ c. reference c limit (resolved_problem s written target) ≡ stopped Nodes) k))
      condition_stops measured.Memory k other = absurd (other refl)

      sample_stops : (v : Frac) → IsLeastFraction (target_number s) (resolved_problem s written target) v → (d : Measured) → StopsWith d (reference_sample Fields limit (at_target s v) (resolved_problem s written target))
          → measured_refusal d ≢ error.Memory → IsFirst m s limit u (measured_refusal d)
      sample_stops v l measured.Overflow k other = overflows (inr (v, l, at (λ c. reference_sample c limit (at_target s v) (resolved_problem s written target) ≡ stopped Overflow) k))
      sample_stops v l measured.Nodes k other = passes_nodes (inr (v, l, at (λ c. reference_sample c limit (at_target s v) (resolved_problem s written target) ≡ stopped Nodes) k))
      sample_stops v l measured.Memory k other = absurd (other refl)

      condition_found : (e : StatementError) → ConditionStop limit (resolved_problem s written target) e → e ≢ error.Memory → IsFirst m s limit u e
      condition_found e (inl p) other = absurd (other p)
      condition_found e (inr h) other = subst (IsFirst m s limit u) (sym h.1) (condition_stops h.0 h.2 (λ p. other (h.1 ∙ p)))

      -- what stops the search refuses the query
      pub found_stops : (e : StatementError) → FoundStop limit (target_number s) (resolved_problem s written target) e → e ≢ error.Memory → IsFirst m s limit u e
      found_stops e (inl h) other = condition_found e h other
      found_stops e (inr h) other = subst (IsFirst m s limit u) (sym h.3) (sample_stops h.0 h.1 h.2 h.4 (λ p. other (h.3 ∙ p)))

-- the problem is not read
module _ (old : State) (written : FormulaTrees) (target : TermTree) (limit : ℕ) (u : Use) where
  abbrev problem : FormulaTree
  problem = problem_of written target

  abbrev there : State
  there = after old problem

  abbrev IsRefused : StatementError → Type 0
  IsRefused e = IsFirst (meaning (Least written target)) there limit u e

  memory : (c : Context) → cause_of c static.Memory ≡ error.Memory
  memory Fields = refl
  memory Integers = refl

  first_refuses : (c : Context) → old.context ≡ c → (d : StaticError) → d ≢ static.Memory → IsFirstCause old.context (known old) old.names problem d → cause_of c d ≢ error.Memory → IsRefused (cause_of c d)
  first_refuses Fields p d n h other = unread_fields there written target (numbers_after old problem) limit u p d n (first_after old problem d n h) other
  first_refuses Integers p d n h other = unread_integers there written target (numbers_after old problem) limit u p d n (first_after old problem d n h)

  pub unread : (e : StatementError) → IsProblemUnread old problem e → e ≢ error.Memory → IsRefused e
  unread e (inl h) other =
      subst IsRefused (sym h.1) (first_refuses old.context refl h.0 (λ p. other (h.1 ∙ ap (cause_of old.context) p ∙ memory old.context)) h.2 (λ p. other (h.1 ∙ p)))
  unread e (inr h) other = subst IsRefused (sym h.0) (read_integers there written target (numbers_after old problem) limit u h.1 (readable_after old problem h.2))
