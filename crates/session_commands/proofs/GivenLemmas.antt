-- Commands that give a formula: what they give, when they are accepted, and why they are refused.
use Rattle.std.proofs.Common.{◌≡◌, ◌⊎◌, inl, inr, ⊎_elim, ℕ, ◌<◌, List, [], ◌∷◌, ◌++◌, Bool, true, Option, Some, None, sym, ap, ◌∙◌, subst, refl, length, codes, nat_eq, arith, ◌↔◌, ◌≤◌}
use Rattle.std.proofs.lemmas.List.{length-append}
use Rattle.std.specs.List.{fold}
use Rattle.logic_meaning.specs.Direct.{direct_answer}
use Rattle.logic_meaning.specs.Formula.{No, none, also}
use Rattle.logic_meaning.specs.Point.{Of, Point}
use Rattle.logic_meaning.specs.Same.{same_atom}
use Rattle.logic_meaning.specs.Tree.{Tree, TrueAt}
use Rattle.formula_laws.proofs.Sizes.{distinct_count_within}
use Rattle.language_meaning.specs.Trees.{FormulaTree, FormulaTrees}
use Rattle.written_syntax.specs.CodeTrees.{formula_trees}
use Rattle.language_meaning.specs.Statements.{CommandTree, Pnf}
use Rattle.language_meaning.specs.Value.{NamedPoint}
use Rattle.elimination_theory.proofs.Turning.{normal_truths, normal_inside}
use Rattle.logic_meaning.specs.NormalForm.{IsNormal}
use Rattle.logic_meaning.specs.Atom.{Says}
use Rattle.logic_meaning.specs.Every.{Every}
use Rattle.logic_meaning.specs.Numbers.{IsAtomInLimit}
use Rattle.logic_meaning.specs.Sizes.{nodes}
use Rattle.logic_meaning.specs.Some.{EachOf}
use Rattle.language_meaning.specs.Resolving.{BoundTrees, bound_truth, formula_variables, all_variables, resolve, at_names}
use Rattle.language_meaning.specs.Value as written
use Rattle.logic_meaning.specs.Text.{tree_text}
use Rattle.form_commands.specs.Replies.{use_of, Refuses, state_with, IsFormulaAnswer}
use Rattle.form_commands.specs.Refusals.{forms_refusal, IsLongText, LineFault, static_refusal}
use Rattle.session_commands.specs.Steps.{given_trees, form_of, command_of, HasUnwantedQuantifier, IsReady, IsUnready, MayBind, TargetFault, HasFewBytes, IsForSize, IsUnfit, IsUnspared, MayAsk}
use Rattle.form_commands.specs.Reading.{AreNumbered, AreReadable, HasNoEarlier, AreUnread}
use Rattle.program_meaning.specs.Meaning.{meaning, Meaning, Determines, IsAllowed, MayGive}
use Rattle.session_state.specs.Numbered.{numbered}
use Rattle.language_meaning.specs.declared.static_error.StaticError.{StaticError}
use Rattle.language_meaning.specs.declared.static_error.StaticError.TheVariants as static
use Rattle.program_meaning.specs.Uses.{IsDirectUse, Use, HasManyNodes, formula_line}
use Rattle.program_meaning.specs.Causes.{HasNoRoom, IsTooLarge, IsCause, MayBeCause, HasNone, IsFirst, IsAccepted}
use Rattle.program_meaning.specs.Reply.{IsLine}
use Rattle.program_meaning.specs.Words.{before}
use Rattle.form_commands.specs.Conditions.{IsConditionFor, IsConditionByCases}
use Rattle.form_commands.specs.Forms.{IsFormOf, IsCleanedAs, IsPrenexAs, IsSimplifiedAs}
use Rattle.form_commands.specs.declared.error.FormsError.{FormsError}
use Rattle.form_commands.specs.Faults.{PrenexFault, FormFault}
use Rattle.form_commands.specs.declared.way.Way.TheVariants as way
use Rattle.form_commands.specs.declared.error.FormsError.TheVariants as forms
use Rattle.logic_meaning.specs.Names.{with_name}
use Rattle.logic_meaning.specs.Writing.{text_limit}
use Rattle.program_meaning.specs.declared.line.Line.{Line}
use Rattle.program_meaning.specs.declared.line.StatementError.{StatementError}
use Rattle.program_meaning.specs.declared.line.StatementError.TheVariants as error
use Rattle.session_commands.specs.declared.formulas.FormCommand.{FormCommand}
use Rattle.session_commands.specs.declared.formulas.FormCommand.TheVariants as wanted
use Rattle.program_meaning.specs.State.{State, with_names, known}
use Rattle.program_meaning.specs.Assumptions.{assumed, Hold}
use Rattle.program_meaning.specs.FormulaAnswers.{negation_normal_of, IsPrenexAnswer, IsSimplification, IsCondition, IsCleanAnswer}
use Rattle.session_state.specs.Keeping.{IsSessionFormula, IsSound}
use Rattle.form_commands.specs.declared.forms.ClauseForm.TheVariants as clause_form
use Rattle.logic_meaning.specs.declared.junction.Junction.{Junction}
use Rattle.logic_meaning.specs.declared.junction.Junction.TheVariants.{Conjunction, Disjunction}
use Rattle.logic_meaning.specs.PlainForms.{plain_form}
use Rattle.form_commands.proofs.CauseLemmas.{HasNoPoint, then_clear, unread_refuses, quantified_refuses, ready_below, readable_below, below_bindings}
use Rattle.form_commands.proofs.AssumptionLemmas.{assumed_hold}
use Rattle.form_commands.proofs.ReadTruth.{truth_as_written}
use Rattle.session_state.proofs.FromPrenexForms.{finished}
use Rattle.session_commands.proofs.NewNameLemmas.{answer_names_once}
use Rattle.form_commands.proofs.PrenexLemmas.{prenex_form_members, prenex_formula}
use Rattle.form_commands.proofs.ConditionsFor.{eliminated_for, condition_formula}
use Rattle.form_commands.proofs.EliminatedLemmas.{answer_formula, orderly_members, orderly_every, simplified_formula, cleaned_formula}
use Rattle.session_state.proofs.VariableLemmas.{not_empty}
use Rattle.session_state.proofs.SoundLemmas.{negated_formula}

append_nil : (xs : List (List ℕ)) → xs ++ [] ≡ xs
append_nil [] = refl
append_nil (x ∷ xs) = ap (λ z. x ∷ z) (append_nil xs)

-- ---- the formula and the assumptions of the command

pub parts_are : (w : FormCommand) (f : FormulaTree) (X : FormulaTrees → Type 0) → X (also f (given_trees w)) → X (meaning (command_of w f)).formulas
parts_are wanted.Resolved f X h = h
parts_are wanted.NegationNormal f X h = h
parts_are wanted.Prenex f X h = h
parts_are (wanted.Distributed clause_form.Disjunctive) f X h = h
parts_are (wanted.Distributed clause_form.Conjunctive) f X h = h
parts_are (wanted.Simplified given) f X h = h
parts_are (wanted.Eliminated found given) f X h = h

plain_command : (w : FormCommand) (f : FormulaTree) (s : State) (limit : ℕ) → HasNoPoint (meaning (command_of w f)) s limit
plain_command wanted.Resolved f s limit = record { further = refl; context = λ h. h; point = λ h. h; unvalued = λ h. h; nodes = λ h. h }
plain_command wanted.NegationNormal f s limit = record { further = refl; context = λ h. h; point = λ h. h; unvalued = λ h. h; nodes = λ h. h }
plain_command wanted.Prenex f s limit = record { further = refl; context = λ h. h; point = λ h. h; unvalued = λ h. h; nodes = λ h. h }
plain_command (wanted.Distributed clause_form.Disjunctive) f s limit = record { further = refl; context = λ h. h; point = λ h. h; unvalued = λ h. h; nodes = λ h. h }
plain_command (wanted.Distributed clause_form.Conjunctive) f s limit = record { further = refl; context = λ h. h; point = λ h. h; unvalued = λ h. h; nodes = λ h. h }
plain_command (wanted.Simplified given) f s limit = record { further = refl; context = λ h. h; point = λ h. h; unvalued = λ h. h; nodes = λ h. h }
plain_command (wanted.Eliminated found given) f s limit = record { further = refl; context = λ h. h; point = λ h. h; unvalued = λ h. h; nodes = λ h. h }

no_own_text : (w : FormCommand) (f : FormulaTree) (s : State) (limit : ℕ) → ¬ ((meaning (command_of w f)).must.text s limit)
no_own_text wanted.Resolved f s limit = λ h. h
no_own_text wanted.NegationNormal f s limit = λ h. h
no_own_text wanted.Prenex f s limit = λ h. h
no_own_text (wanted.Distributed clause_form.Disjunctive) f s limit = λ h. h
no_own_text (wanted.Distributed clause_form.Conjunctive) f s limit = λ h. h
no_own_text (wanted.Simplified given) f s limit = λ h. h
no_own_text (wanted.Eliminated found given) f s limit = λ h. h

-- the state with their variables
abbrev pub with_variables : State → FormulaTree → FormulaTrees → State
with_variables s f given = with_names s (fold with_name s.names (formula_variables f ++ all_variables given))

with_them : (s : State) (xs : List (List ℕ)) → with_names s (fold with_name s.names (xs ++ [])) ≡ with_names s (fold with_name s.names xs)
with_them s xs = ap (λ zs. with_names s (fold with_name s.names zs)) (append_nil xs)

pub named_is : (w : FormCommand) (f : FormulaTree) (s : State) → numbered (meaning (command_of w f)) s ≡ with_variables s f (given_trees w)
named_is wanted.Resolved f s = with_them s (formula_variables f ++ all_variables none)
named_is wanted.NegationNormal f s = with_them s (formula_variables f ++ all_variables none)
named_is wanted.Prenex f s = with_them s (formula_variables f ++ all_variables none)
named_is (wanted.Distributed clause_form.Disjunctive) f s = with_them s (formula_variables f ++ all_variables none)
named_is (wanted.Distributed clause_form.Conjunctive) f s = with_them s (formula_variables f ++ all_variables none)
named_is (wanted.Simplified given) f s = with_them s (formula_variables f ++ all_variables (formula_trees given.now))
named_is (wanted.Eliminated found given) f s = with_them s (formula_variables f ++ all_variables (formula_trees given.now))

-- ---- refusals in reading

-- no line is refused for the text of a formula that is not the one that is given
many_nodes : (target : Option (List ℕ)) (t u : Tree) → nodes t ≤ nodes u → IsTooLarge target t → HasManyNodes target u
many_nodes None t u l h = h
many_nodes (Some x) t u l h = let d = distinct_count_within same_atom nat_eq t in omega arith

longer : (target : Option (List ℕ)) (names : List (List ℕ)) (t u : Tree) → length (tree_text names t) ≤ length (tree_text names u) → text_limit < length (formula_line target names t) → text_limit < length (formula_line target names u)
longer None names t u l h = omega arith
longer (Some x) names t u l h =
    let short : text_limit < length ((x ++ codes " := ") ++ tree_text names t) = h in
    let a = length-append (x ++ codes " := ") (tree_text names t) in
    let b = length-append (x ++ codes " := ") (tree_text names u) in
    let goal : text_limit < length ((x ++ codes " := ") ++ tree_text names u) = omega arith in
    goal

-- false is small, and so is its line
small_false : (target : Option (List ℕ)) → ¬ (IsTooLarge target No)
small_false None k = k
small_false (Some x) k = absurd (omega (arith, k))

short_false : (target : Option (List ℕ)) (names : List (List ℕ)) (t : Tree) → t ≡ No → text_limit < length (formula_line target names t) → ¬ (HasFewBytes target ⊎ (text_limit < length (tree_text names t)))
short_false target names t e k (inr long) = let five : text_limit < length (tree_text names No) = subst (λ u. text_limit < length (tree_text names u)) e long in absurd (omega (arith, five))
short_false None names t e k (inl few) = let five : text_limit < length (tree_text names No) = subst (λ u. text_limit < length (tree_text names u)) e k in absurd (omega (arith, five))
short_false (Some x) names t e k (inl few) =
    let line : text_limit < length ((x ++ codes " := ") ++ tree_text names No) = subst (λ u. text_limit < length (formula_line (Some x) names u)) e k in
    let a = length-append (x ++ codes " := ") (tree_text names No) in
    let b = length-append x (codes " := ") in
    absurd (omega (arith, line, a, b, few))

-- a length is not within a limit and past it
past_limit : {n limit : ℕ} → n ≤ limit → ¬ (limit < n)
past_limit h k = absurd (omega (arith, h, k))

-- a quantifier where none may be is the cause of that name
unwanted : (w : FormCommand) (f : FormulaTree) (s : State) (limit : ℕ) → (meaning (command_of w f)).must.quantified s limit → HasUnwantedQuantifier s w f
unwanted wanted.Resolved f s limit h = h
unwanted wanted.NegationNormal f s limit h = h
unwanted wanted.Prenex f s limit h = h
unwanted (wanted.Distributed clause_form.Disjunctive) f s limit h = h
unwanted (wanted.Distributed clause_form.Conjunctive) f s limit h = h
unwanted (wanted.Simplified given) f s limit h = h
unwanted (wanted.Eliminated found given) f s limit h = h

wanted_no_quantifier : (w : FormCommand) (f : FormulaTree) (s : State) (limit : ℕ) → HasUnwantedQuantifier s w f → (meaning (command_of w f)).must.quantified s limit
wanted_no_quantifier wanted.Resolved f s limit h = h
wanted_no_quantifier wanted.NegationNormal f s limit h = h
wanted_no_quantifier wanted.Prenex f s limit h = h
wanted_no_quantifier (wanted.Distributed clause_form.Disjunctive) f s limit h = h
wanted_no_quantifier (wanted.Distributed clause_form.Conjunctive) f s limit h = h
wanted_no_quantifier (wanted.Simplified given) f s limit h = h
wanted_no_quantifier (wanted.Eliminated found given) f s limit h = h

module _ (w : FormCommand) (f : FormulaTree) (s : State) (numbers : AreNumbered s.names (also f (given_trees w))) (limit : ℕ) (target : Option (List ℕ)) (printed : Bool) where
  abbrev command : CommandTree
  command = command_of w f

  abbrev asked : Meaning
  asked = meaning (command_of w f)

  abbrev done : Use
  done = use_of target printed

  numbers_here : AreNumbered s.names asked.formulas
  numbers_here = parts_are w f (AreNumbered s.names) numbers

  no_quantifier : ¬ (HasUnwantedQuantifier s w f) → ¬ (asked.must.quantified s limit)
  no_quantifier plain h = plain (unwanted w f s limit h)

  -- a command that is not ready is refused
  pub refused_unready : (e : StatementError) → IsUnready s w f e → Refuses s limit done command e
  refused_unready e (inl h) other =
      subst (IsFirst asked s limit done) (sym h.word)
      (quantified_refuses asked s limit done numbers_here (plain_command w f s limit) (wanted_no_quantifier w f s limit h.quantified) (parts_are w f (λ fs. HasNoEarlier s fs static.Overflow) h.first))
  refused_unready e (inr h) other =
      unread_refuses asked s limit done numbers_here (plain_command w f s limit) e (λ o. no_quantifier (h.plain o)) (parts_are w f (λ fs. AreUnread s fs e) h.unread) other

  pub clear_to_nodes : IsReady s w f → ¬ (asked.must.overflow s limit) → HasNone asked s limit done (before error.Nodes)
  clear_to_nodes h fits = readable_below asked s limit done numbers_here (plain_command w f s limit) (parts_are w f (AreReadable s) h.readable) (no_quantifier h.plain) fits

  pub clear_to_overflow : IsReady s w f → HasNone asked s limit done (before error.Overflow)
  clear_to_overflow h = ready_below asked s limit done numbers_here (plain_command w f s limit) (parts_are w f (AreReadable s) h.readable) (no_quantifier h.plain)

-- ---- what is given

-- the negation normal form has the truth of the formula
negated_truth : (s : State) (f : FormulaTree) → Every (IsNormal s.context) (resolve s.context (known s) s.names f) → (p : Point ℕ) → Of s.context p
    → TrueAt s.context (resolve s.context (known s) s.names f) p ↔ TrueAt s.context (negation_normal_of s f) p
negated_truth s f normal p of =
    let t = resolve s.context (known s) s.names f in
    (normal_truths s.context t p (normal_inside s.context t normal) of).0

-- the formula t is given, where it is the wanted form of the resolved formula
module _ (f : FormulaTree) (s : State) (limit : ℕ) (t : Tree) where
  abbrev resolution : Tree
  resolution = resolve s.context (known s) s.names f

  abbrev Given : FormCommand → Type 0
  Given w = IsFormOf s.context (length s.names) (assumed s (given_trees w)) limit (form_of w) resolution t

  -- no renamed atom passes the limit of numbers
  given_fits : (w : FormCommand) → Given w → ¬ ((meaning (command_of w f)).must.overflow s limit)
  given_fits wanted.Resolved h k = k
  given_fits wanted.NegationNormal h k = k
  given_fits wanted.Prenex h k = h.fits k.1
  given_fits (wanted.Distributed clause_form.Disjunctive) h k = k
  given_fits (wanted.Distributed clause_form.Conjunctive) h k = k
  given_fits (wanted.Simplified given) h k = k
  given_fits (wanted.Eliminated found given) h k = k

  one : (w : FormCommand) → Given w → (other : Tree) → Determines (meaning (command_of w f)).answer s other → other ≡ t
  one wanted.Resolved h other k = k ∙ sym h
  one wanted.NegationNormal h other k = k ∙ sym h
  one wanted.Prenex h other k = k ∙ sym h.form
  one (wanted.Distributed clause_form.Disjunctive) h other k = absurd k
  one (wanted.Distributed clause_form.Conjunctive) h other k = absurd k
  one (wanted.Simplified given) h other k = absurd k
  one (wanted.Eliminated found given) h other k = absurd k

  -- ---- simplified

  module _ (gs : FormulaTrees) (readable : AreReadable s (also f gs)) (sound : IsSound s) (numbers : AreNumbered s.names (also f gs)) (own : IsSessionFormula s.context (length s.names) resolution) where
    same_here : (p : NamedPoint) → Of s.context p → written.TrueAt (bound_truth s.context (known s) s.names) s.context f p ↔ TrueAt s.context resolution (at_names s.names p)
    same_here p of = truth_as_written s f (numbers.0) sound.names_once (readable.0) p of

    assumptions_say : (p : NamedPoint) → Of s.context p → Hold s gs p → EachOf (λ k. Says k (at_names s.names p)) (assumed s gs)
    assumptions_say p of hold = assumed_hold s f gs readable sound.names_once numbers p of hold

    simplification : IsSimplifiedAs s.context (assumed s gs) (negation_normal_of s f) t → IsSimplification s f gs t
    simplification h = record {
      reduced = h.reduced;
      truth = λ p of hold.
          let q = at_names s.names p in
          let a = same_here p of in
          let b = negated_truth s f own.normal q of in
          let c = h.truth q of (assumptions_say p of hold) in
          (λ x. c.1 (b.0 (a.0 x)), λ x. a.1 (b.1 (c.0 x)));
      names = h.names;
      quantified = h.quantified;
      nodes = h.nodes;
      atoms = h.atoms;
      text = h.text s.names (not_empty s.names sound.variables) (negated_formula s.context (length s.names) resolution own).within.atoms;
      normal = h.normal;
      members = orderly_members (IsNormal s.context) t h.orderly;
    }

    cleaning : (j : Junction) → IsCleanedAs s.context j (negation_normal_of s f) t → IsCleanAnswer s j f t
    cleaning j h = record {
      clean = h.clean;
      truth = λ p of.
          let q = at_names s.names p in
          let a = same_here p of in
          let b = negated_truth s f own.normal q of in
          let c = h.truth q of in
          (λ x. c.1 (b.0 (a.0 x)), λ x. a.1 (b.1 (c.0 x)));
      names = h.names;
      nodes = h.nodes;
      text = h.text s.names (not_empty s.names sound.variables) (negated_formula s.context (length s.names) resolution own).within.atoms;
      normal = orderly_every (IsNormal s.context) t h.orderly;
      members = orderly_members (IsNormal s.context) t h.orderly;
    }

    prenexing : IsPrenexAs s.context (length s.names) limit resolution t → IsPrenexAnswer s limit f t
    prenexing h =
        let done = finished s.context (length s.names) resolution t own.normal own.within h.form in
        record {
          form = h.form;
          prenex = done.prenex;
          fewest = done.fewest;
          truth = λ p of.
              let a = same_here p of in
              let b = done.truth (at_names s.names p) of in
              (λ x. b.0 (a.0 x), λ x. a.1 (b.1 x));
          names = done.free;
          normal = done.normal;
          members = prenex_form_members s.context (length s.names) resolution t h.form own.members;
          small = h.small;
          fits = h.fits;
        }

    condition : IsConditionFor s.context (assumed s gs) limit resolution t → IsCondition s limit f gs t
    condition h = record {
      free = h.free;
      names = h.names;
      reduced = h.reduced;
      truth = λ p of hold.
          let q = at_names s.names p in
          let a = same_here p of in
          let c = h.truth q of (assumptions_say p of hold) in
          (λ x. c.1 (a.0 x), λ x. a.1 (c.0 x));
      small = h.small;
      normal = h.normal;
      members = orderly_members (IsNormal s.context) t h.orderly;
    }

  gives : (w : FormCommand) → IsReady s w f → IsSound s → IsSessionFormula s.context (length s.names) resolution → AreNumbered s.names (also f (given_trees w)) → Given w → IsAllowed (meaning (command_of w f)).answer s limit t
  gives wanted.Resolved readable sound own numbers h = h
  gives wanted.NegationNormal readable sound own numbers h = h
  gives wanted.Prenex readable sound own numbers h = prenexing none readable.readable sound numbers own h
  gives (wanted.Distributed clause_form.Disjunctive) readable sound own numbers h = cleaning none readable.readable sound numbers own Conjunction h
  gives (wanted.Distributed clause_form.Conjunctive) readable sound own numbers h = cleaning none readable.readable sound numbers own Disjunction h
  gives (wanted.Simplified given) readable sound own numbers h = simplification (formula_trees given.now) readable.readable sound numbers own h
  gives (wanted.Eliminated found given) readable sound own numbers h =
      condition (formula_trees given.now) readable.readable sound numbers own (eliminated_for found s.context (length s.names) (assumed s (formula_trees given.now)) limit resolution t h)

  -- a direct answer has no more nodes than a bound formula may have, and its line is short; so is false
  module _ (gs : FormulaTrees) (found : IsConditionByCases s.context (assumed s gs) limit resolution t) where
    unspared_large : (u : Use) → IsTooLarge u.target t → ¬ (IsDirectUse f s limit u)
    unspared_large u k d =
        ⊎_elim (λ n. d.small (many_nodes u.target t (direct_answer d.name d.members d.root) n.nodes k)) (λ e. small_false u.target (subst (IsTooLarge u.target) e k))
        (found.direct d.name d.members d.root d.fields d.direct)

    unspared_long : IsSound s → IsSessionFormula s.context (length s.names) resolution → (u : Use) → text_limit < length (formula_line u.target s.names t)
        → HasFewBytes u.target ⊎ (text_limit < length (tree_text s.names t)) → ¬ (IsDirectUse f s limit u)
    unspared_long sound own u k few d =
        ⊎_elim (λ n. past_limit d.short (longer u.target s.names t (direct_answer d.name d.members d.root) (n.text s.names (not_empty s.names sound.variables) own.within.atoms) k)) (λ e. short_false u.target s.names t e k few)
        (found.direct d.name d.members d.root d.fields d.direct)

  -- the command stops with the word: a condition by cases is unfit and the command not spared, or the word is that of a cause
  abbrev Stops : Use → StatementError → FormCommand → Type 0
  Stops u e w = (IsUnfit s.bound u.target w e × IsUnspared s limit u w f) ⊎ ((¬ (IsUnfit s.bound u.target w e)) × (IsCause (meaning (command_of w f)) s limit u e ⊎ MayBeCause (meaning (command_of w f)) s limit u e))

  too_large : (w : FormCommand) → Given w → (u : Use) → MayAsk s limit u w f → ¬ (HasNoRoom s.bound u.target) → IsTooLarge u.target t → Stops u error.Bindings w
  too_large wanted.Resolved h u ask room k = inr (λ x. x.0, inl (inr (t, h, k)))
  too_large wanted.NegationNormal h u ask room k = inr (λ x. x.0, inl (inr (t, h, k)))
  too_large wanted.Prenex h u ask room k = inr (λ x. x.0, inl (inr (t, h.form, k)))
  too_large (wanted.Distributed clause_form.Disjunctive) h u ask room k = inr (λ x. x.0, inr (λ x. x, plain_form Conjunction (negation_normal_of s f), refl, many_nodes u.target t (plain_form Conjunction (negation_normal_of s f)) h.nodes k))
  too_large (wanted.Distributed clause_form.Conjunctive) h u ask room k = inr (λ x. x.0, inr (λ x. x, plain_form Disjunction (negation_normal_of s f), refl, many_nodes u.target t (plain_form Disjunction (negation_normal_of s f)) h.nodes k))
  too_large (wanted.Simplified given) h u ask room k = inr (λ x. x.0, inr (λ x. x, negation_normal_of s f, refl, many_nodes u.target t (negation_normal_of s f) h.nodes k))
  too_large (wanted.Eliminated way.ByCases given) h u ask room k = inl ((tt, inl refl, room), unspared_large (formula_trees given.now) h u k)
  too_large (wanted.Eliminated way.ByReference given) h u ask room k = inr (λ x. x.0, inr (ask, h.answer, (h.eliminated.cost, h.eliminated.same), many_nodes u.target t h.answer h.simplified.nodes k))

  no_room : (w : FormCommand) (u : Use) → HasNoRoom s.bound u.target → Stops u error.Bindings w
  no_room w u k = inr (λ x. x.2 k, inl (inl k))

  -- The line is past the limit with the names after the answer. None of the names is empty, and those of the resolved formula have numbers.
  module _ (sound : IsSound s) (own : IsSessionFormula s.context (length s.names) resolution) (names : List (List ℕ)) (u : Use) (room : ¬ (HasNoRoom s.bound u.target)) (p : u.printed ≡ true)
      (k : text_limit < length (formula_line u.target names t)) (few : HasFewBytes u.target ⊎ (text_limit < length (tree_text names t))) where
    long_here : names ≡ s.names → text_limit < length (formula_line u.target s.names t)
    long_here e = subst (λ ns. text_limit < length (formula_line u.target ns t)) e k

    few_here : names ≡ s.names → HasFewBytes u.target ⊎ (text_limit < length (tree_text s.names t))
    few_here e = subst (λ ns. HasFewBytes u.target ⊎ (text_limit < length (tree_text ns t))) e few

    too_long : (w : FormCommand) → Given w → MayAsk s limit u w f → (meaning (command_of w f)).names s names → Stops u error.Text w
    too_long wanted.Resolved h ask n = inr (λ x. x.0, inl (p, inl record { formula = t; determined = h; names = names; named = n; long = k }))
    too_long wanted.NegationNormal h ask n = inr (λ x. x.0, inl (p, inl record { formula = t; determined = h; names = names; named = n; long = k }))
    too_long wanted.Prenex h ask n = inr (λ x. x.0, inl (p, inl record { formula = t; determined = h.form; names = names; named = n; long = k }))
    too_long (wanted.Distributed clause_form.Disjunctive) h ask n =
        let short = h.text s.names (not_empty s.names sound.variables) (negated_formula s.context (length s.names) resolution own).within.atoms in
        inr (λ x. x.0, inr (λ x. x, p, inl (plain_form Conjunction (negation_normal_of s f), refl, longer u.target s.names t (plain_form Conjunction (negation_normal_of s f)) short (long_here n))))
    too_long (wanted.Distributed clause_form.Conjunctive) h ask n =
        let short = h.text s.names (not_empty s.names sound.variables) (negated_formula s.context (length s.names) resolution own).within.atoms in
        inr (λ x. x.0, inr (λ x. x, p, inl (plain_form Disjunction (negation_normal_of s f), refl, longer u.target s.names t (plain_form Disjunction (negation_normal_of s f)) short (long_here n))))
    too_long (wanted.Simplified given) h ask n =
        let short = h.text s.names (not_empty s.names sound.variables) (negated_formula s.context (length s.names) resolution own).within.atoms in
        inr (λ x. x.0, inr (λ x. x, p, inl (negation_normal_of s f, refl, longer u.target s.names t (negation_normal_of s f) short (long_here n))))
    too_long (wanted.Eliminated way.ByCases given) h ask n = inl ((tt, inr refl, room), unspared_long (formula_trees given.now) h sound own u (long_here n) (few_here n))
    too_long (wanted.Eliminated way.ByReference given) h ask n =
        let answered = answer_formula s.context (length s.names) resolution h.answer own h.eliminated.exact in
        let short = h.simplified.text s.names (not_empty s.names sound.variables) answered.within.atoms in
        inr (λ x. x.0, inr (ask, p, inl (h.answer, (h.eliminated.cost, h.eliminated.same), longer u.target s.names t h.answer short (long_here n))))

-- a condition is unfit only where it is refused for its size
pub fits_other : (w : FormCommand) (bound : BoundTrees) (target : Option (List ℕ)) (e : StatementError) → ¬ (IsForSize e) → ¬ (IsUnfit bound target w e)
fits_other w bound target e n x = n x.1

memory_other : ¬ (IsForSize error.Memory)
memory_other x = ⊎_elim (λ e. absurd (cc (e))) (λ e. absurd (cc (e))) x

module _ (w : FormCommand) (f : FormulaTree) (s : State) (numbers : AreNumbered s.names (also f (given_trees w))) (limit : ℕ) (target : Option (List ℕ)) (printed : Bool) (t : Tree)
    (given : IsFormOf s.context (length s.names) (assumed s (given_trees w)) limit (form_of w) (resolve s.context (known s) s.names f) t) (h : IsReady s w f) where
  abbrev given_use : Use
  given_use = use_of target printed

  clear : HasNone (meaning (command_of w f)) s limit given_use (before error.Bindings)
  clear = below_bindings (meaning (command_of w f)) s limit given_use (parts_are w f (AreNumbered s.names) numbers) (plain_command w f s limit) (clear_to_nodes w f s numbers limit target printed h (given_fits f s limit t w given))

  -- why an attempt at the command fails
  abbrev Fails : StatementError → Type 0
  Fails e = (IsUnfit s.bound target w e × IsUnspared s limit given_use w f) ⊎ ((¬ (IsUnfit s.bound target w e)) × Refuses s limit given_use (command_of w f) e)

  failed : (e : StatementError) → HasNone (meaning (command_of w f)) s limit given_use (before e) → Stops f s limit t given_use e w → Fails e
  failed e first stops = elim stops [ inl x ↦ inl x | inr r ↦ inr (r.0, λ other. record { applies = r.1; first = first }) ]

  failed_memory : Fails error.Memory
  failed_memory = inr (fits_other w s.bound target error.Memory memory_other, λ other. absurd (other refl))

  pub refused_target : MayAsk s limit given_use w f → (e : StatementError) → TargetFault s.bound target t e → Fails e
  refused_target ask e (inl h) =
      subst Fails (sym h.0)
      (elim h.1 [ inl k ↦ failed error.Bindings clear (no_room f s limit t w given_use k) | inr k ↦ failed error.Bindings clear (too_large f s limit t w given given_use ask k.0 k.1) ])
  refused_target ask e (inr h) = subst Fails (sym h) failed_memory

  clear_to_text : MayBind s.bound target t → HasNone (meaning (command_of w f)) s limit given_use (before error.Text)
  clear_to_text b =
      then_clear (meaning (command_of w f)) s limit given_use error.Bindings error.Text refl clear
      (λ k. elim k [ inl r ↦ b.room r | inr m ↦ b.small (subst (IsTooLarge target) (one f s limit t w given m.0 m.1) m.2) ])

  module _ (sound : IsSound s) (own : IsSessionFormula s.context (length s.names) (resolve s.context (known s) s.names f)) (names : List (List ℕ)) (named : (meaning (command_of w f)).names s names) where
    pub refused_line : MayAsk s limit given_use w f → MayBind s.bound target t → (e : StatementError) → LineFault printed (formula_line target names t) e
        → (e ≡ error.Text → HasFewBytes target ⊎ (text_limit < length (tree_text names t))) → Fails e
    refused_line ask b e (inl k) few = subst Fails (sym k.0) (failed error.Text (clear_to_text b) (too_long f s limit t sound own names given_use b.room k.1.0 k.1.1 (few k.0) w given ask named))
    refused_line ask b e (inr k) few = subst Fails (sym k) failed_memory

    -- a line that is past the limit would be this one
    not_long : ¬ (IsLongText printed (formula_line target names t)) → ¬ (IsCause (meaning (command_of w f)) s limit given_use error.Text)
    not_long short (p, inl long) =
        let same_names = answer_names_once s (command_of w f) long.names names long.named named in
        let here = subst (λ ns. text_limit < length (formula_line target ns long.formula)) same_names long.long in
        short (p, subst (λ u. text_limit < length (formula_line target names u)) (one f s limit t w given long.formula long.determined) here)
    not_long short (p, inr own_text) = no_own_text w f s limit own_text

    -- no cause of a refusal applies
    pub is_accepted : MayBind s.bound target t → ¬ (IsLongText printed (formula_line target names t)) → IsAccepted (meaning (command_of w f)) s limit given_use
    is_accepted b short = then_clear (meaning (command_of w f)) s limit given_use error.Text error.Memory refl (clear_to_text b) (not_long short)

    -- and the formula is one that the command may give
    pub may_give : Every IsAtomInLimit t → MayGive (meaning (command_of w f)).answer s limit t
    may_give fits = (gives f s limit t w h sound own numbers given, fits)

    pub is_given : Every IsAtomInLimit t → MayBind s.bound target t → (answer : Line) → IsLine printed (formula_line target names t) answer
        → ¬ (IsLongText printed (formula_line target names t)) → IsFormulaAnswer s limit (use_of target printed) (command_of w f) answer (state_with (with_names s names) target t)
    is_given fits b answer line short = record {
      accepted = is_accepted b short;
      formula = t;
      allowed = may_give fits;
      names = names;
      named = named;
      line = line;
      small = b.small;
      after = refl;
    }

same_names : (s : State) (t : Tree) (names : List (List ℕ)) → names ≡ s.names → IsSessionFormula s.context (length s.names) t → IsSessionFormula s.context (length names) t
same_names s t names e h = subst (λ ns. IsSessionFormula s.context (length ns) t) (sym e) h

pub given_formula : (w : FormCommand) (f : FormulaTree) (s : State) (limit : ℕ) (t : Tree) (names : List (List ℕ)) → IsFormOf s.context (length s.names) (assumed s (given_trees w)) limit (form_of w) (resolve s.context (known s) s.names f) t
    → (meaning (command_of w f)).names s names → IsSessionFormula s.context (length s.names) (resolve s.context (known s) s.names f) → IsSessionFormula s.context (length names) t
given_formula wanted.Resolved f s limit t names given named own = same_names s t names named (subst (IsSessionFormula s.context (length s.names)) (sym given) own)
given_formula wanted.NegationNormal f s limit t names given named own = same_names s t names named (subst (IsSessionFormula s.context (length s.names)) (sym given) (negated_formula s.context (length s.names) _ own))
given_formula wanted.Prenex f s limit t names given named own = prenex_formula s.context s.names names _ t own given.form named
given_formula (wanted.Distributed clause_form.Disjunctive) f s limit t names given named own = same_names s t names named (cleaned_formula s.context Conjunction (length s.names) _ t (negated_formula s.context (length s.names) _ own) given)
given_formula (wanted.Distributed clause_form.Conjunctive) f s limit t names given named own = same_names s t names named (cleaned_formula s.context Disjunction (length s.names) _ t (negated_formula s.context (length s.names) _ own) given)
given_formula (wanted.Simplified g) f s limit t names given named own = same_names s t names named (simplified_formula s.context _ (length s.names) _ t (negated_formula s.context (length s.names) _ own) given)
given_formula (wanted.Eliminated found g) f s limit t names given named own =
    same_names s t names named (condition_formula s.context (assumed s (formula_trees g.now)) (length s.names) limit _ t own (eliminated_for found s.context (length s.names) (assumed s (formula_trees g.now)) limit _ t given))

-- the limit that is given is the one that is passed
past_one : (limit count : ℕ) → (n : ℕ) × (Some limit ≡ Some n) × (n < count) → limit < count
past_one limit count h = let e : limit ≡ h.0 = cc (h.1) in subst (λ n. n < count) (sym e) h.2

-- a prenex form has too many nodes, or a number of a renamed atom passes the limit
refused_prenex : (f : FormulaTree) (s : State) (numbers : AreNumbered s.names (also f none)) (limit : ℕ) (target : Option (List ℕ)) (printed : Bool) → IsReady s wanted.Prenex f
    → (e : FormsError) → PrenexFault s.context (length s.names) limit (resolve s.context (known s) s.names f) e → Refuses s limit (use_of target printed) (Pnf f) (forms_refusal e)
refused_prenex f s numbers limit target printed h forms.Nodes k other = record {
  applies = inr (λ x. x, k);
  first = clear_to_nodes wanted.Prenex f s numbers limit target printed h (λ p. let few = p.0 in absurd (omega arith));
}
refused_prenex f s numbers limit target printed h forms.Overflow k other = record { applies = inl (inr k); first = clear_to_overflow wanted.Prenex f s numbers limit target printed h }
refused_prenex f s numbers limit target printed h forms.Memory k other = absurd (other refl)

-- the form is not made
pub refused_form : (w : FormCommand) (f : FormulaTree) (s : State) (numbers : AreNumbered s.names (also f (given_trees w))) (limit : ℕ) (target : Option (List ℕ)) (printed : Bool) → IsReady s w f → MayAsk s limit (use_of target printed) w f
    → (e : FormsError) → FormFault s.context (length s.names) limit (form_of w) (resolve s.context (known s) s.names f) e → Refuses s limit (use_of target printed) (command_of w f) (forms_refusal e)
refused_form wanted.Prenex f s numbers limit target printed h ask e k other = refused_prenex f s numbers limit target printed h e k other
refused_form wanted.Resolved f s numbers limit target printed h ask forms.Overflow k other = absurd k
refused_form wanted.Resolved f s numbers limit target printed h ask forms.Nodes k other = absurd k
refused_form wanted.Resolved f s numbers limit target printed h ask forms.Memory k other = absurd (other refl)
refused_form wanted.NegationNormal f s numbers limit target printed h ask forms.Overflow k other = absurd k
refused_form wanted.NegationNormal f s numbers limit target printed h ask forms.Nodes k other = record { applies = inr (λ x. x, past_one limit _ k); first = clear_to_nodes wanted.NegationNormal f s numbers limit target printed h (λ p. p) }
refused_form wanted.NegationNormal f s numbers limit target printed h ask forms.Memory k other = absurd (other refl)
refused_form (wanted.Distributed clause_form.Disjunctive) f s numbers limit target printed h ask forms.Overflow k other = absurd k
refused_form (wanted.Distributed clause_form.Disjunctive) f s numbers limit target printed h ask forms.Nodes k other = record { applies = inr (λ x. x, k); first = clear_to_nodes (wanted.Distributed clause_form.Disjunctive) f s numbers limit target printed h (λ p. p) }
refused_form (wanted.Distributed clause_form.Disjunctive) f s numbers limit target printed h ask forms.Memory k other = absurd (other refl)
refused_form (wanted.Distributed clause_form.Conjunctive) f s numbers limit target printed h ask forms.Overflow k other = absurd k
refused_form (wanted.Distributed clause_form.Conjunctive) f s numbers limit target printed h ask forms.Nodes k other = record { applies = inr (λ x. x, k); first = clear_to_nodes (wanted.Distributed clause_form.Conjunctive) f s numbers limit target printed h (λ p. p) }
refused_form (wanted.Distributed clause_form.Conjunctive) f s numbers limit target printed h ask forms.Memory k other = absurd (other refl)
refused_form (wanted.Simplified g) f s numbers limit target printed h ask forms.Overflow k other = absurd k
refused_form (wanted.Simplified g) f s numbers limit target printed h ask forms.Nodes k other = record { applies = inr (λ x. x, k); first = clear_to_nodes (wanted.Simplified g) f s numbers limit target printed h (λ p. p) }
refused_form (wanted.Simplified g) f s numbers limit target printed h ask forms.Memory k other = absurd (other refl)
refused_form (wanted.Eliminated way.ByCases g) f s numbers limit target printed h ask forms.Overflow k other = record {
  applies = inr (λ d. absurd (cc (k.direct d.name d.members d.root d.fields d.direct)), k.stops);
  first = clear_to_overflow (wanted.Eliminated way.ByCases g) f s numbers limit target printed h;
}
refused_form (wanted.Eliminated way.ByCases g) f s numbers limit target printed h ask forms.Nodes k other = record {
  applies = inr (λ d. absurd (cc (k.direct d.name d.members d.root d.fields d.direct)), k.stops);
  first = clear_to_nodes (wanted.Eliminated way.ByCases g) f s numbers limit target printed h (λ p. p);
}
refused_form (wanted.Eliminated way.ByCases g) f s numbers limit target printed h ask forms.Memory k other = absurd (other refl)
refused_form (wanted.Eliminated way.ByReference g) f s numbers limit target printed h ask forms.Overflow k other = record { applies = inr (ask, k); first = clear_to_overflow (wanted.Eliminated way.ByReference g) f s numbers limit target printed h }
refused_form (wanted.Eliminated way.ByReference g) f s numbers limit target printed h ask forms.Nodes k other = record { applies = inr (ask, k); first = clear_to_nodes (wanted.Eliminated way.ByReference g) f s numbers limit target printed h (λ p. p) }
refused_form (wanted.Eliminated way.ByReference g) f s numbers limit target printed h ask forms.Memory k other = absurd (other refl)

-- ---- words that are not for size

other_static : (d : StaticError) → ¬ (IsForSize (static_refusal d))
other_static static.Unbound x = ⊎_elim (λ e. absurd (cc (e))) (λ e. absurd (cc (e))) x
other_static static.FormulaAsTerm x = ⊎_elim (λ e. absurd (cc (e))) (λ e. absurd (cc (e))) x
other_static static.Nonlinear x = ⊎_elim (λ e. absurd (cc (e))) (λ e. absurd (cc (e))) x
other_static static.Division x = ⊎_elim (λ e. absurd (cc (e))) (λ e. absurd (cc (e))) x
other_static static.CongruenceContext x = ⊎_elim (λ e. absurd (cc (e))) (λ e. absurd (cc (e))) x
other_static static.Modulus x = ⊎_elim (λ e. absurd (cc (e))) (λ e. absurd (cc (e))) x
other_static static.Depth x = ⊎_elim (λ e. absurd (cc (e))) (λ e. absurd (cc (e))) x
other_static static.Overflow x = ⊎_elim (λ e. absurd (cc (e))) (λ e. absurd (cc (e))) x
other_static static.Memory x = ⊎_elim (λ e. absurd (cc (e))) (λ e. absurd (cc (e))) x

quantified_other : ¬ (IsForSize error.Quantified)
quantified_other x = ⊎_elim (λ e. absurd (cc (e))) (λ e. absurd (cc (e))) x

-- nothing is refused for its size before it is made
pub unready_other : (s : State) (w : FormCommand) (f : FormulaTree) (e : StatementError) → IsUnready s w f e → ¬ (IsForSize e)
unready_other s w f e (inl h) = subst (λ x. ¬ (IsForSize x)) (sym h.word) quantified_other
unready_other s w f e (inr h) = subst (λ x. ¬ (IsForSize x)) (sym h.unread.1) (other_static h.unread.0)

pub form_other : (e : FormsError) → ¬ (IsForSize (forms_refusal e))
form_other forms.Overflow x = ⊎_elim (λ e. absurd (cc (e))) (λ e. absurd (cc (e))) x
form_other forms.Nodes x = ⊎_elim (λ e. absurd (cc (e))) (λ e. absurd (cc (e))) x
form_other forms.Memory x = ⊎_elim (λ e. absurd (cc (e))) (λ e. absurd (cc (e))) x
