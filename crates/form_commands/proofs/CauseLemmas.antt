-- Causes of refusals, in their order: the list is walked from its front, one cause after another.
use Rattle.std.proofs.Common.{◌≡◌, ◌≢◌, inl, inr, ⊎_elim, ℕ, List, [], ◌∷◌, ◌++◌, sym, ap, ◌∙◌, subst, refl, rules}
use Rattle.logic_meaning.specs.Some.{SomeOf, EachOf}
use Rattle.language_meaning.specs.Trees.{FormulaTree, FormulaTrees}
use Rattle.logic_meaning.specs.Names.{place}
use Rattle.language_meaning.specs.NamesAfter.{names_after}
use Rattle.language_meaning.specs.Causes.{IsBound, IsNonlinear, Divides, IsBadModulus, OverflowsInReading}
use Rattle.language_meaning.specs.declared.static_error.StaticError.{StaticError}
use Rattle.language_meaning.specs.declared.static_error.StaticError.TheVariants as static
use Rattle.language_meaning.specs.Refusals as reading
use Rattle.program_meaning.specs.declared.line.StatementError.{StatementError}
use Rattle.program_meaning.specs.Meaning.{Meaning}
use Rattle.program_meaning.specs.Uses.{Use}
use Rattle.program_meaning.specs.Causes.{SomeFormula, IsCause, HasNone, IsAccepted, IsFirst}
use Rattle.program_meaning.specs.Words.{before, order}
use Rattle.program_meaning.specs.State.{State, known}
use Rattle.program_meaning.specs.declared.line.StatementError.TheVariants as error
use Rattle.form_commands.specs.Refusals.{static_refusal}
use Rattle.form_commands.specs.Reading.{HasNumbers, IsReadable, AreNumbered, AreReadable, AppliesAmong, IsBefore, HasNoEarlier, IsFirstAmong, AreUnread}
use Rattle.formula_resolving.proofs.OrderFacts.{each_cause}
use Rattle.form_commands.proofs.PartLemmas.{some_formula, no_formula}

-- ---- lists

each_last : {X : Type 0} (P : X → Type 0) (xs : List X) (x : X) → EachOf P xs → P x → EachOf P (xs ++ x ∷ [])
each_last P [] x h p = (p, tt)
each_last P (y ∷ ys) x h p = (h.0, each_last P ys x h.1 p)

each_but_last : {X : Type 0} (P : X → Type 0) (xs : List X) (x : X) → EachOf P (xs ++ x ∷ []) → EachOf P xs × P x
each_but_last P [] x h = (tt, h.0)
each_but_last P (y ∷ ys) x h = let r = each_but_last P ys x h.1 in ((h.0, r.0), r.1)

each_front : {X : Type 0} (P : X → Type 0) (xs ys : List X) → EachOf P (xs ++ ys) → EachOf P xs
each_front P [] ys h = tt
each_front P (x ∷ xs) ys h = (h.0, each_front P xs ys h.1)

-- ---- one cause after another

module _ (m : Meaning) (s : State) (limit : ℕ) (u : Use) where
  abbrev Clear : StatementError → Type 0
  Clear d = ¬ (IsCause m s limit u d)

  -- where none before a cause applies, and it does not, none before the next one does
  pub then_clear : (e after : StatementError) → before after ≡ before e ++ e ∷ [] → HasNone m s limit u (before e) → ¬ (IsCause m s limit u e) → HasNone m s limit u (before after)
  then_clear e after p h n = subst (λ ds. EachOf Clear ds) (sym p) (each_last Clear (before e) e h n)

  -- where none applies, none before a cause does
  pub none_before : (e : StatementError) (rest : List StatementError) → order ≡ before e ++ rest → IsAccepted m s limit u → HasNone m s limit u (before e)
  none_before e rest p h = each_front Clear (before e) rest (subst (λ ds. EachOf Clear ds) p h)

  -- where no cause applies, this one does not
  pub no_cause : IsAccepted m s limit u → (e : StatementError) → ¬ (IsCause m s limit u e)
  no_cause h error.Long k = h.0 k
  no_cause h error.Lexical k = h.1.0 k
  no_cause h error.Nesting k = h.1.1.0 k
  no_cause h error.Syntax k = h.1.1.1.0 k
  no_cause h error.Unbound k = h.1.1.1.1.0 k
  no_cause h error.FormulaAsTerm k = h.1.1.1.1.1.0 k
  no_cause h error.Nonlinear k = h.1.1.1.1.1.1.0 k
  no_cause h error.Division k = h.1.1.1.1.1.1.1.0 k
  no_cause h error.CongruenceContext k = h.1.1.1.1.1.1.1.1.0 k
  no_cause h error.Context k = h.1.1.1.1.1.1.1.1.1.0 k
  no_cause h error.Modulus k = h.1.1.1.1.1.1.1.1.1.1.0 k
  no_cause h error.Depth k = h.1.1.1.1.1.1.1.1.1.1.1.0 k
  no_cause h error.Point k = h.1.1.1.1.1.1.1.1.1.1.1.1.0 k
  no_cause h error.Unvalued k = h.1.1.1.1.1.1.1.1.1.1.1.1.1.0 k
  no_cause h error.Quantified k = h.1.1.1.1.1.1.1.1.1.1.1.1.1.1.0 k
  no_cause h error.Overflow k = h.1.1.1.1.1.1.1.1.1.1.1.1.1.1.1.0 k
  no_cause h error.Nodes k = h.1.1.1.1.1.1.1.1.1.1.1.1.1.1.1.1.0 k
  no_cause h error.Bindings k = h.1.1.1.1.1.1.1.1.1.1.1.1.1.1.1.1.1.0 k
  no_cause h error.Text k = h.1.1.1.1.1.1.1.1.1.1.1.1.1.1.1.1.1.1.0 k
  no_cause h error.Memory k = k

  to_long : HasNone m s limit u (before error.Long)
  to_long = let p : before error.Long ≡ [] = refl in subst (λ ds. EachOf Clear ds) (sym p) tt

  -- what is wrong with the text comes first, and is no cause of a command
  to_unbound : HasNone m s limit u (before error.Unbound)
  to_unbound =
      let lexical = then_clear error.Long error.Lexical refl to_long (λ h. h) in
      let nesting = then_clear error.Lexical error.Nesting refl lexical (λ h. h) in
      let syntax = then_clear error.Nesting error.Syntax refl nesting (λ h. h) in
      then_clear error.Syntax error.Unbound refl syntax (λ h. h)

  -- ---- causes in reading

  -- where none before the next cause applies, this one does not, nor one before it
  less : (d after : StaticError) → reading.before after ≡ reading.before d ++ d ∷ [] → HasNoEarlier s m.formulas after → HasNoEarlier s m.formulas d × (¬ (AppliesAmong s m.formulas d))
  less d after p first = each_but_last (λ e. ¬ (AppliesAmong s m.formulas e)) (reading.before d) d (subst (EachOf (λ e. ¬ (AppliesAmong s m.formulas e))) p first)

  module _ (numbers : AreNumbered s.names m.formulas) where
    -- a cause that speaks of the names of the state is one of the names after the formula, and the other way round
    module _ (P : List (List ℕ) → FormulaTree → Type 0) where
      after_here : SomeFormula (P s.names) m.formulas → SomeFormula (λ g. P (names_after s.names g) g) m.formulas
      after_here h = some_formula (HasNumbers s.names) (P s.names) (λ g. P (names_after s.names g) g) (λ g n p. subst (λ ns. P ns g) (sym n) p) m.formulas numbers h

      here_after : SomeFormula (λ g. P (names_after s.names g) g) m.formulas → SomeFormula (P s.names) m.formulas
      here_after h = some_formula (HasNumbers s.names) (λ g. P (names_after s.names g) g) (P s.names) (λ g n p. subst (λ ns. P ns g) n p) m.formulas numbers h

    -- a cause in reading is one of the command
    pub cause_of_reading : (d : StaticError) → AppliesAmong s m.formulas d → d ≢ static.Memory → IsCause m s limit u (static_refusal d)
    cause_of_reading static.Unbound h other = h
    cause_of_reading static.FormulaAsTerm h other = inl h
    cause_of_reading static.Nonlinear h other = here_after (λ ns. IsNonlinear s.context (place ns)) h
    cause_of_reading static.Division h other = here_after (λ ns. Divides s.context (place ns)) h
    cause_of_reading static.CongruenceContext h other = h
    cause_of_reading static.Modulus h other = here_after (λ ns. IsBadModulus s.context (place ns)) h
    cause_of_reading static.Depth h other = h
    cause_of_reading static.Overflow h other = inl (here_after (λ ns. OverflowsInReading s.context (known s) (place ns)) h)
    cause_of_reading static.Memory h other = absurd (other refl)

    pub overflow_here : SomeFormula (OverflowsInReading s.context (known s) (place s.names)) m.formulas → AppliesAmong s m.formulas static.Overflow
    overflow_here h = after_here (λ ns. OverflowsInReading s.context (known s) (place ns)) h

    abbrev Further : Type 0
    Further = SomeOf (IsBound (known s)) m.further

    to_term : HasNoEarlier s m.formulas static.FormulaAsTerm → HasNone m s limit u (before error.FormulaAsTerm)
    to_term first = then_clear error.Unbound error.FormulaAsTerm refl to_unbound first.0

    module _ (free : ¬ Further) where
      to_nonlinear : HasNoEarlier s m.formulas static.Nonlinear → HasNone m s limit u (before error.Nonlinear)
      to_nonlinear first = let n = less static.FormulaAsTerm static.Nonlinear refl first in then_clear error.FormulaAsTerm error.Nonlinear refl (to_term n.0) (λ h. ⊎_elim n.1 free h)

      to_division : HasNoEarlier s m.formulas static.Division → HasNone m s limit u (before error.Division)
      to_division first =
          let n = less static.Nonlinear static.Division refl first in
          then_clear error.Nonlinear error.Division refl (to_nonlinear n.0) (λ h. n.1 (after_here (λ ns. IsNonlinear s.context (place ns)) h))

      to_congruence : HasNoEarlier s m.formulas static.CongruenceContext → HasNone m s limit u (before error.CongruenceContext)
      to_congruence first =
          let n = less static.Division static.CongruenceContext refl first in
          then_clear error.Division error.CongruenceContext refl (to_division n.0) (λ h. n.1 (after_here (λ ns. Divides s.context (place ns)) h))

      to_context : HasNoEarlier s m.formulas static.Modulus → HasNone m s limit u (before error.Context)
      to_context first = let n = less static.CongruenceContext static.Modulus refl first in then_clear error.CongruenceContext error.Context refl (to_congruence n.0) n.1

      module _ (suits : ¬ (m.must.context s limit)) where
        to_modulus : HasNoEarlier s m.formulas static.Modulus → HasNone m s limit u (before error.Modulus)
        to_modulus first = then_clear error.Context error.Modulus refl (to_context first) suits

        to_depth : HasNoEarlier s m.formulas static.Depth → HasNone m s limit u (before error.Depth)
        to_depth first =
            let n = less static.Modulus static.Depth refl first in
            then_clear error.Modulus error.Depth refl (to_modulus n.0) (λ h. n.1 (after_here (λ ns. IsBadModulus s.context (place ns)) h))

        -- where no cause in reading applies but an overflow, none before the point does
        pub to_point : HasNoEarlier s m.formulas static.Overflow → HasNone m s limit u (before error.Point)
        to_point first = let n = less static.Depth static.Overflow refl first in then_clear error.Depth error.Point refl (to_depth n.0) n.1

    -- the first cause in reading is the first of all, where it is no overflow; from the second on no further name is bound, and behind congruences the theory is that of the command
    pub first_in_reading : (d : StaticError) → IsBefore d static.Overflow → IsFirstAmong s m.formulas d → (IsBefore static.FormulaAsTerm d → ¬ Further) → (IsBefore static.CongruenceContext d → ¬ (m.must.context s limit))
        → IsFirst m s limit u (static_refusal d)
    first_in_reading static.Unbound l h free suits = record { applies = inl (cause_of_reading static.Unbound h.applies (λ e. absurd (cc (e)))); first = to_unbound }
    first_in_reading static.FormulaAsTerm l h free suits = record { applies = inl (cause_of_reading static.FormulaAsTerm h.applies (λ e. absurd (cc (e)))); first = to_term h.first }
    first_in_reading static.Nonlinear l h free suits = record { applies = inl (cause_of_reading static.Nonlinear h.applies (λ e. absurd (cc (e)))); first = to_nonlinear (free (inr (inl refl))) h.first }
    first_in_reading static.Division l h free suits = record { applies = inl (cause_of_reading static.Division h.applies (λ e. absurd (cc (e)))); first = to_division (free (inr (inl refl))) h.first }
    first_in_reading static.CongruenceContext l h free suits = record { applies = inl (cause_of_reading static.CongruenceContext h.applies (λ e. absurd (cc (e)))); first = to_congruence (free (inr (inl refl))) h.first }
    first_in_reading static.Modulus l h free suits = record { applies = inl (cause_of_reading static.Modulus h.applies (λ e. absurd (cc (e)))); first = to_modulus (free (inr (inl refl))) (suits (inr (inr (inr (inr (inl refl)))))) h.first }
    first_in_reading static.Depth l h free suits = record { applies = inl (cause_of_reading static.Depth h.applies (λ e. absurd (cc (e)))); first = to_depth (free (inr (inl refl))) (suits (inr (inr (inr (inr (inl refl)))))) h.first }
    first_in_reading static.Overflow l h free suits = absurd (search rules)
    first_in_reading static.Memory l h free suits = absurd (search rules)

    -- a further name that is bound is a cause beside the formulas that are named as terms
    pub bound_first : HasNoEarlier s m.formulas static.FormulaAsTerm → Further → IsFirst m s limit u error.FormulaAsTerm
    bound_first first h = record { applies = inl (inr h); first = to_term first }

-- no cause applies to a formula that is resolved
readable_part : (s : State) (g : FormulaTree) → IsReadable s g → (d : StaticError) → d ≢ static.Memory → ¬ (reading.Applies s.context (known s) s.names g d)
readable_part s g h static.Unbound n k = h.bound_names k
readable_part s g h static.FormulaAsTerm n k = h.variables k
readable_part s g h static.Nonlinear n k = h.linear k
readable_part s g h static.Division n k = h.undivided k
readable_part s g h static.CongruenceContext n k = h.congruences k
readable_part s g h static.Modulus n k = h.moduli k
readable_part s g h static.Depth n k = h.flat k
readable_part s g h static.Overflow n k = h.within k
readable_part s g h static.Memory n k = n refl

pub readable_none : (s : State) (g : FormulaTree) → IsReadable s g → EachOf (λ d. ¬ (reading.Applies s.context (known s) s.names g d)) reading.order
readable_none s g h = each_cause (λ d. ¬ (reading.Applies s.context (known s) s.names g d)) (readable_part s g h)

-- nor to several
pub readable_applies : (s : State) (fs : FormulaTrees) → AreReadable s fs → EachOf (λ d. ¬ (AppliesAmong s fs d)) reading.order
readable_applies s fs h =
    each_cause (λ d. ¬ (AppliesAmong s fs d)) (λ d n. no_formula (IsReadable s) (λ g. reading.Applies s.context (known s) s.names g d) (λ g k. readable_part s g k d n) fs h)

-- ---- commands without a point

-- the command has no point, and is not refused for what is counted wherever that applies
pub record HasNoPoint (m : Meaning) (s : State) (limit : ℕ) : Type 0 where
  pub further : m.further ≡ []
  pub context : ¬ (m.must.context s limit)
  pub point : ¬ (m.must.point s limit)
  pub unvalued : ¬ (m.must.unvalued s limit)
  pub nodes : ¬ (m.must.nodes s limit)

module _ (m : Meaning) (s : State) (limit : ℕ) (u : Use) (numbers : AreNumbered s.names m.formulas) (plain : HasNoPoint m s limit) where
  no_further : ¬ (SomeOf (IsBound (known s)) m.further)
  no_further h = let k = subst (SomeOf (IsBound (known s))) plain.further h in absurd k

  to_quantified : HasNoEarlier s m.formulas static.Overflow → HasNone m s limit u (before error.Quantified)
  to_quantified first =
      let point = to_point m s limit u numbers no_further plain.context first in
      let unvalued = then_clear m s limit u error.Point error.Unvalued refl point plain.point in
      then_clear m s limit u error.Unvalued error.Quantified refl unvalued plain.unvalued

  to_overflow : HasNoEarlier s m.formulas static.Overflow → ¬ (m.must.quantified s limit) → HasNone m s limit u (before error.Overflow)
  to_overflow first free = then_clear m s limit u error.Quantified error.Overflow refl (to_quantified first) free

  -- a quantifier stands in the formula, where nothing else is wrong but that its reading may overflow
  pub quantified_refuses : m.must.quantified s limit → HasNoEarlier s m.formulas static.Overflow → IsFirst m s limit u error.Quantified
  quantified_refuses h first = record { applies = inl h; first = to_quantified first }

  unread_one : (d : StaticError) → d ≢ static.Memory → (d ≡ static.Overflow → ¬ (m.must.quantified s limit)) → IsFirstAmong s m.formulas d → IsFirst m s limit u (static_refusal d)
  unread_one static.Unbound other free h = first_in_reading m s limit u numbers static.Unbound (search rules) h (λ l. no_further) (λ l. plain.context)
  unread_one static.FormulaAsTerm other free h = first_in_reading m s limit u numbers static.FormulaAsTerm (search rules) h (λ l. no_further) (λ l. plain.context)
  unread_one static.Nonlinear other free h = first_in_reading m s limit u numbers static.Nonlinear (search rules) h (λ l. no_further) (λ l. plain.context)
  unread_one static.Division other free h = first_in_reading m s limit u numbers static.Division (search rules) h (λ l. no_further) (λ l. plain.context)
  unread_one static.CongruenceContext other free h = first_in_reading m s limit u numbers static.CongruenceContext (search rules) h (λ l. no_further) (λ l. plain.context)
  unread_one static.Modulus other free h = first_in_reading m s limit u numbers static.Modulus (search rules) h (λ l. no_further) (λ l. plain.context)
  unread_one static.Depth other free h = first_in_reading m s limit u numbers static.Depth (search rules) h (λ l. no_further) (λ l. plain.context)
  unread_one static.Overflow other free h = record { applies = inl (cause_of_reading m s limit u numbers static.Overflow h.applies other); first = to_overflow h.first (free refl) }
  unread_one static.Memory other free h = absurd (other refl)

  -- the first cause in reading refuses the command, where an overflow has no quantifier before it
  pub unread_refuses : (e : StatementError) → (e ≡ error.Overflow → ¬ (m.must.quantified s limit)) → AreUnread s m.formulas e → e ≢ error.Memory → IsFirst m s limit u e
  unread_refuses e free h other =
      let no_memory : h.0 ≢ static.Memory = (λ p. other (h.1 ∙ ap static_refusal p)) in
      subst (IsFirst m s limit u) (sym h.1) (unread_one h.0 no_memory (λ p. free (h.1 ∙ ap static_refusal p)) (h.2 no_memory))

  overflows_last : AreReadable s m.formulas → HasNoEarlier s m.formulas static.Overflow × (¬ (AppliesAmong s m.formulas static.Overflow))
  overflows_last h = less m s limit u static.Overflow static.Memory refl (readable_applies s m.formulas h)

  pub ready_below : AreReadable s m.formulas → ¬ (m.must.quantified s limit) → HasNone m s limit u (before error.Overflow)
  ready_below h free = to_overflow (overflows_last h).0 free

  pub readable_below : AreReadable s m.formulas → ¬ (m.must.quantified s limit) → ¬ (m.must.overflow s limit) → HasNone m s limit u (before error.Nodes)
  readable_below h free fits =
      then_clear m s limit u error.Overflow error.Nodes refl (ready_below h free) (λ k. ⊎_elim (λ p. (overflows_last h).1 (overflow_here m s limit u numbers p)) fits k)

  -- nothing is counted that is refused wherever it applies
  pub below_bindings : HasNone m s limit u (before error.Nodes) → HasNone m s limit u (before error.Bindings)
  below_bindings h = then_clear m s limit u error.Nodes error.Bindings refl h plain.nodes
