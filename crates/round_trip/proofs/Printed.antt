-- What a formula command prints in a state in which nothing is bound is the text of a formula of the session.
use Rattle.std.proofs.Common.{◌≡◌, refl, inl, inr, ℕ, ◌<◌, ◌≤◌, List, [], ◌++◌, true, length, codes, sym, ap, ap₂, ◌∙◌, subst, arith}
use Rattle.std.specs.Prelude.{None}
use Rattle.logic_meaning.specs.Context.{Context}
use Rattle.logic_meaning.specs.Every.{Every}
use Rattle.logic_meaning.specs.Formula.{none, also}
use Rattle.logic_meaning.specs.declared.junction.Junction.{Junction}
use Rattle.logic_meaning.specs.declared.junction.Junction.TheVariants.{Conjunction, Disjunction}
use Rattle.logic_meaning.specs.Shape.{IsQuantifierFree}
use Rattle.logic_meaning.specs.Sizes.{height}
use Rattle.logic_meaning.specs.Tree.{Tree}
use Rattle.language_meaning.specs.Trees.{FormulaTree, FormulaTrees}
use Rattle.language_meaning.specs.Holes.{alone}
use Rattle.language_meaning.specs.Statements.{CommandTree, Echo, Nnf, Pnf, Dnf, Cnf, Simpl, Qe, Qea, Holds, Sample, Grid, Certify, Check, Least, Say, StatementTree}
use Rattle.written_syntax.specs.Writable.{IsWritableFormula, AreWritableFormulas}
use Rattle.written_syntax.proofs.WritableLemmas.{writable_formula}
use Rattle.written_syntax.specs.StatementSyntaxWritable.{IsWritableCommand}
use Rattle.language_meaning.specs.Resolving.{BoundTrees, all_variables, resolve}
use Rattle.logic_meaning.specs.Names.{place}
use Rattle.language_meaning.specs.NamesAfter.{names_after}
use Rattle.language_meaning.specs.Causes.{most_height, IsUnbound, NamesFormulaAsTerm, IsNonlinear, Divides, CongruenceInFields, IsBadModulus, IsTooDeep, OverflowsInReading}
use Rattle.resolved_formulas.specs.Accepted.{IsAccepted as IsResolvable}
use Rattle.language_meaning.specs.Answers.{with_inner}
use Rattle.resolved_formulas.proofs.ResolvedHeight.{resolving_keeps_height}
use Rattle.language_meaning.specs.Statement.{IsDeep}
use Rattle.language_meaning.specs.declared.level.TheConstants.{LEVEL_LIMIT}
use Rattle.language_meaning.specs.declared.limit.TheConstants.{BYTE_LIMIT}
use Rattle.redlog_reader.proofs.Whole.{spells_once}
use Rattle.logic_meaning.specs.Text.{tree_text}
use Rattle.round_trip.specs.Levels.{tree_level}
use Rattle.logic_meaning.specs.Numbers.{IsAtomInLimit}
use Rattle.round_trip.specs.Round.{IsPrintable, line_text}
use Rattle.round_trip.proofs.Echo.{deep_text_is_nesting}
use Rattle.program_meaning.specs.declared.line.Line.{Line}
use Rattle.program_meaning.specs.declared.line.Line.TheVariants as line
use Rattle.program_meaning.specs.declared.line.StatementError.TheVariants as error
use Rattle.program_meaning.specs.State.{State, with_names, with_answers, known}
use Rattle.program_meaning.specs.FormulaAnswers.{negation_normal_of, IsSimplification, IsCleanAnswer, IsCondition}
use Rattle.program_meaning.specs.Meaning.{Meaning, Answer, OfFormula, OfText, IsAllowed, MayGive, meaning}
use Rattle.session_state.specs.Numbered.{numbered}
use Rattle.session_state.specs.FormulaGiven.{GivesFormula}
use Rattle.program_meaning.specs.Uses.{Use}
use Rattle.program_meaning.specs.Causes.{SomeFormula, IsAccepted}
use Rattle.program_meaning.specs.Reply.{Tells, IsReached, AnswersSaid, Answers}
use Rattle.form_commands.specs.Reading.{AreNumbered}
use Rattle.session_state.specs.Keeping.{IsSessionFormula}
use Rattle.shape_theory.proofs.FormShapes.{form_free}
use Rattle.form_commands.proofs.CauseLemmas.{no_cause}
use Rattle.form_commands.proofs.ReadLemmas.{numbered_in}
use Rattle.redlog_run.proofs.Unrefused.{plain_state, plain_reached}
use Rattle.resolved_formulas.proofs.PlaceLaws.{after_has, in_either}
use Rattle.form_commands.proofs.EliminatedLemmas.{unquantified_bound, within_of_names, free_below, none_from, all_below}
use Rattle.form_commands.proofs.PrenexLemmas.{prenex_formula}
use Rattle.session_state.proofs.SoundLemmas.{AreSessionFormulas, resolved_formula, negated_formula}
use Rattle.round_trip.specs.ReadBack.{IsBare, IsEcho, IsPrinted, PrintedIsFormula, IsAnsweredBy, EchoIsAnswered}
use Rattle.round_trip.proofs.Answered.{text_is_answered}
use Rattle.round_trip.proofs.Bare.{proper_formulas, said_variables, spelled_proper}

-- ---- what is given

-- nothing that is bound is no formula of a session
none_bound : (c : Context) (n : ℕ) (bound : BoundTrees) → bound ≡ [] → AreSessionFormulas c n bound
none_bound c n bound e = subst (AreSessionFormulas c n) (sym e) (λ x t h. absurd (cc))

-- a state in which the variables of the command have their numbers, and which accepts it
module _ (z : State) (limit : ℕ) (u : Use) (m : Meaning) (f : FormulaTree) (gs : FormulaTrees) (formulas : m.formulas ≡ also f gs) (numbers : names_after z.names f ≡ z.names) (proper : IsWritableFormula f)
    (unknown : known z ≡ []) (accepted : IsAccepted m z limit u) where
  at_names : (P : (List ℕ → ℕ) → Type 0) → P (place (names_after z.names f)) → P (place z.names)
  at_names P h = subst (λ ns. P (place ns)) numbers h

  some : (P : FormulaTree → Type 0) → P f → SomeFormula P m.formulas
  some P h = subst (SomeFormula P) (sym formulas) (inl h)

  readable : IsResolvable z.context (known z) z.names f
  readable = record {
    bound_names = λ h. no_cause m z limit u accepted error.Unbound (some (IsUnbound (known z)) h);
    variables = λ h. no_cause m z limit u accepted error.FormulaAsTerm (inl (some (NamesFormulaAsTerm (known z)) h));
    linear = λ h. no_cause m z limit u accepted error.Nonlinear (some (IsNonlinear z.context (place z.names)) (at_names (λ p. IsNonlinear z.context p f) h));
    undivided = λ h. no_cause m z limit u accepted error.Division (some (Divides z.context (place z.names)) (at_names (λ p. Divides z.context p f) h));
    congruences = λ h. no_cause m z limit u accepted error.CongruenceContext (some (CongruenceInFields z.context) h);
    moduli = λ h. no_cause m z limit u accepted error.Modulus (some (IsBadModulus z.context (place z.names)) (at_names (λ p. IsBadModulus z.context p f) h));
    flat = λ h. no_cause m z limit u accepted error.Depth (some (IsTooDeep (known z)) h);
    within = λ h. no_cause m z limit u accepted error.Overflow (inl (some (OverflowsInReading z.context (known z) (place z.names)) (at_names (λ p. OverflowsInReading z.context (known z) p f) h)));
  }

  abbrev read : Tree
  read = resolve z.context (known z) z.names f

  resolved_one : IsSessionFormula z.context (length z.names) (read)
  resolved_one = resolved_formula z.context (known z) z.names f (none_bound z.context (length z.names) (known z) unknown) numbers (writable_formula f proper) readable

  resolved_low : height (read) ≤ most_height
  resolved_low = let e = resolving_keeps_height z.context (known z) z.names f in let flat : ¬ (most_height < height (read)) = (λ h. readable.flat (subst (λ n. most_height < n) e h)) in omega arith

  negated_one : IsSessionFormula z.context (length z.names) (negation_normal_of z f)
  negated_one = negated_formula z.context (length z.names) (read) resolved_one

  condition_formula : (gs : FormulaTrees) (t : Tree) → IsCondition z limit f gs t → IsSessionFormula z.context (length z.names) t
  condition_formula gs t h =
      let bound = unquantified_bound (λ x. x < length z.names) t h.free in
      record {
        normal = h.normal;
        within = record {
          atoms = within_of_names z.context (length z.names) t h.normal bound (λ x m. free_below (length z.names) x (read) resolved_one.within.atoms (h.names x m));
          quantified = bound;
        };
        members = h.members;
      }

  simplified_one : (gs : FormulaTrees) (t : Tree) → IsSimplification z f gs t → IsSessionFormula z.context (length z.names) t
  simplified_one gs t h =
      let bound = all_below (length z.names) t (λ m l. h.quantified m (none_from (length z.names) (negation_normal_of z f) m l negated_one.within.quantified)) in
      record {
        normal = h.normal;
        within = record {
          atoms = within_of_names z.context (length z.names) t h.normal bound (λ x m. free_below (length z.names) x (negation_normal_of z f) negated_one.within.atoms (h.names x m));
          quantified = bound;
        };
        members = h.members;
      }

  clean_one : (j : Junction) (t : Tree) → IsCleanAnswer z j f t → IsSessionFormula z.context (length z.names) t
  clean_one j t h =
      let free : IsQuantifierFree t = subst (λ (g : Tree). IsQuantifierFree g) (sym h.clean.form) (form_free j h.clean.lines) in
      let bound = unquantified_bound (λ x. x < length z.names) t free in
      record {
        normal = h.normal;
        within = record {
          atoms = within_of_names z.context (length z.names) t h.normal bound (λ x m. free_below (length z.names) x (negation_normal_of z f) negated_one.within.atoms (h.names x m));
          quantified = bound;
        };
        members = h.members;
      }

-- the names after the answer are these, but for a prenex form
module _ (z next : State) (limit : ℕ) (u : Use) (context : next.context ≡ z.context) (t : Tree) where
  -- a formula of the state before is one of the state after
  same_formula : next.names ≡ z.names → IsSessionFormula z.context (length z.names) t → IsSessionFormula next.context (length next.names) t
  same_formula n h = subst (λ c. IsSessionFormula c (length next.names) t) (sym context) (subst (λ ns. IsSessionFormula z.context (length ns) t) (sym n) h)

  given_formula : (c : CommandTree) → GivesFormula (meaning c).answer → AreNumbered z.names (meaning c).formulas → AreWritableFormulas (meaning c).formulas → known z ≡ [] → IsAccepted (meaning c) z limit u
      → IsAllowed (meaning c).answer z limit t → (meaning c).names z next.names → IsSessionFormula next.context (length next.names) t
  given_formula (Echo f) b numbers proper unknown accepted h n =
      same_formula n (subst (IsSessionFormula z.context (length z.names)) (sym h) (resolved_one z limit u (meaning (Echo f)) f none refl numbers.0 proper.0 unknown accepted))
  given_formula (Nnf f) b numbers proper unknown accepted h n =
      same_formula n (subst (IsSessionFormula z.context (length z.names)) (sym h)
      (negated_formula z.context (length z.names) (resolve z.context (known z) z.names f) (resolved_one z limit u (meaning (Nnf f)) f none refl numbers.0 proper.0 unknown accepted)))
  given_formula (Pnf f) b numbers proper unknown accepted h n =
      subst (λ c. IsSessionFormula c (length next.names) t) (sym context)
      (prenex_formula z.context z.names next.names (resolve z.context (known z) z.names f) t (resolved_one z limit u (meaning (Pnf f)) f none refl numbers.0 proper.0 unknown accepted) h.form n)
  given_formula (Dnf f) b numbers proper unknown accepted h n = same_formula n (clean_one z limit u (meaning (Dnf f)) f none refl numbers.0 proper.0 unknown accepted Conjunction t h)
  given_formula (Cnf f) b numbers proper unknown accepted h n = same_formula n (clean_one z limit u (meaning (Cnf f)) f none refl numbers.0 proper.0 unknown accepted Disjunction t h)
  given_formula (Simpl f given) b numbers proper unknown accepted h n = same_formula n (simplified_one z limit u (meaning (Simpl f given)) f given refl numbers.0 proper.0 unknown accepted given t h)
  given_formula (Qe f given) b numbers proper unknown accepted h n = same_formula n (condition_formula z limit u (meaning (Qe f given)) f given refl numbers.0 proper.0 unknown accepted given t h)
  given_formula (Qea f g) b numbers proper unknown accepted h n = absurd b
  given_formula (Holds f es) b numbers proper unknown accepted h n = absurd b
  given_formula (Sample f es) b numbers proper unknown accepted h n = absurd b
  given_formula (Grid f axes) b numbers proper unknown accepted h n = absurd b
  given_formula (Certify written) b numbers proper unknown accepted h n = absurd b
  given_formula (Check written ms) b numbers proper unknown accepted h n = absurd b
  given_formula (Least written target) b numbers proper unknown accepted h n = absurd b

  given_low : (c : CommandTree) → AreNumbered z.names (meaning c).formulas → AreWritableFormulas (meaning c).formulas → known z ≡ [] → IsAccepted (meaning c) z limit u
      → IsAllowed (meaning c).answer z limit t → IsEcho c → height t ≤ most_height
  given_low (Echo f) numbers proper unknown accepted h k =
      subst (λ (t : Tree). height t ≤ most_height) (sym h) (resolved_low z limit u (meaning (Echo f)) f none refl numbers.0 proper.0 unknown accepted)
  given_low (Nnf f) numbers proper unknown accepted h k = absurd k
  given_low (Pnf f) numbers proper unknown accepted h k = absurd k
  given_low (Dnf f) numbers proper unknown accepted h k = absurd k
  given_low (Cnf f) numbers proper unknown accepted h k = absurd k
  given_low (Simpl f given) numbers proper unknown accepted h k = absurd k
  given_low (Qe f given) numbers proper unknown accepted h k = absurd k
  given_low (Qea f g) numbers proper unknown accepted h k = absurd k
  given_low (Holds f es) numbers proper unknown accepted h k = absurd k
  given_low (Sample f es) numbers proper unknown accepted h k = absurd k
  given_low (Grid f axes) numbers proper unknown accepted h k = absurd k
  given_low (Certify written) numbers proper unknown accepted h k = absurd k
  given_low (Check written ms) numbers proper unknown accepted h k = absurd k
  given_low (Least written target) numbers proper unknown accepted h k = absurd k

-- ---- a line that is read again

read_again : (next : State) (t : Tree) (text : List ℕ) → IsBare next → IsSessionFormula next.context (length next.names) t → Every IsAtomInLimit t → text ≡ tree_text next.names t
    → height t ≤ most_height → length (text ++ codes ";") ≤ BYTE_LIMIT → ¬ (IsDeep (text ++ codes ";")) → (more : ℕ) → IsAnsweredBy next more (text ++ codes ";") text
read_again next t text bare own fits text_is low short shallow more =
    let printable : IsPrintable (length next.names) t = record { numbers = fits; names = own.within; joins = own.members } in
    let line_short : length (line_text next.names t) ≤ BYTE_LIMIT = subst (λ ts. length (ts ++ codes ";") ≤ BYTE_LIMIT) text_is short in
    let line_shallow : ¬ (IsDeep (line_text next.names t)) = subst (λ ts. ¬ (IsDeep (ts ++ codes ";"))) text_is shallow in
    let level : ¬ (LEVEL_LIMIT < tree_level t) = (λ l. line_shallow (deep_text_is_nesting next.names t bare.names printable line_short l)) in
    subst (λ ts. IsAnsweredBy next more (ts ++ codes ";") ts) (sym text_is)
    (text_is_answered next more t bare (record { formula = own; numbers = fits; low = low }) (record { short = line_short; shallow = omega arith }))

told_formula : (a : Answer) (z : State) (limit : ℕ) (names : List (List ℕ)) (text : List ℕ) → GivesFormula a → Tells a z limit names text → (t : Tree) × MayGive a z limit t × (text ≡ tree_text names t)
told_formula (OfFormula a) z limit names text b h = h
told_formula (OfText tells) z limit names text b h = absurd b

-- ---- the state after it

-- a statement with this command, inside which no other stands
abbrev said : CommandTree → StatementTree
said c = record { action = Say c; printed = true; inner = alone }

-- it is answered in the state in which its variables have their numbers
said_alone : (s : State) (limit : ℕ) (c : CommandTree) (t : StatementTree) (state after : State) (answer : Line) → IsBare s → t ≡ said c → IsReached t s limit state → Answers state limit t.printed t.action answer after
    → AnswersSaid (meaning c) (numbered (meaning c) s) limit true answer after
said_alone s limit c t state after answer bare same reached answered =
    let at_once : state ≡ plain_state (Say c) s = plain_reached s limit (said c) state refl (subst (λ (u : StatementTree). IsReached u s limit state) same reached) in
    let settled : plain_state (Say c) s ≡ numbered (meaning c) s = ap (with_answers (numbered (meaning c) s)) (sym bare.settled) in
    let there : AnswersSaid (meaning c) state limit true answer after = subst (λ (u : StatementTree). Answers state limit u.printed u.action answer after) same answered in
    subst (λ (y : State). AnswersSaid (meaning c) y limit true answer after) settled (subst (λ (y : State). AnswersSaid (meaning c) y limit true answer after) at_once there)

-- the answers are given up after it
left_after : (z after next : State) (names : List (List ℕ)) → next ≡ with_answers after [] → after ≡ with_names z names → next ≡ with_answers (with_names z names) []
left_after z after next names left is = left ∙ ap (λ (y : State). with_answers y []) is

abbrev use_of_line : Use
use_of_line = record { target = None; printed = true }

pub printed_is_formula : PrintedIsFormula
printed_is_formula s limit piece c bytes next bare built spelled r =
    let m = meaning c in
    let z = numbered m s in
    let a = said_alone s limit c r.statement r.state r.after (line.Printed bytes) bare (spells_once piece r.statement (said c) r.spelled spelled) r.reached r.answered in
    let after_is : next ≡ with_answers (with_names z a.names) [] = left_after z r.after next a.names r.left a.after in
    let unknown : known z ≡ [] = ap₂ with_inner bare.settled bare.unbound in
    let proper : IsWritableCommand c = (spelled_proper spelled).action in
    let names : next.names ≡ a.names = ap (λ (y : State). y.names) after_is in
    let told = told_formula m.answer z limit a.names a.text built a.told in
    let text_is : bytes.items ≡ tree_text next.names told.0 = a.line.1 ∙ told.2 ∙ ap (λ ns. tree_text ns told.0) (sym names) in
    let numbers : AreNumbered z.names m.formulas = numbered_in m.formulas z.names (λ x i. after_has (all_variables m.formulas ++ m.further) s.names x (inr (in_either x (all_variables m.formulas) m.further (inl i)))) in
    let after : m.names z next.names = subst (m.names z) (sym names) a.named in
    let bare_next : IsBare next = record {
      names = said_variables s c next.names proper bare.names after;
      unbound = ap (λ (y : State). y.bound) after_is ∙ bare.unbound;
      settled = ap (λ (y : State). y.answers) after_is;
    } in
    let same : next.context ≡ z.context = ap (λ (y : State). y.context) after_is in
    let own = given_formula z next limit use_of_line same told.0 c built numbers (proper_formulas c built proper) unknown a.accepted told.1.0 after in
    let here : IsPrinted z limit c bytes.items next = record {
      tree = told.0;
      given = told.1;
      text_is = text_is;
      formula = own;
      low = given_low z next limit use_of_line same told.0 c numbers (proper_formulas c built proper) unknown a.accepted told.1.0;
      answered = read_again next told.0 bytes.items bare_next own told.1.1 text_is;
    } in
    (bare_next, here)

pub echo_is_answered : EchoIsAnswered
echo_is_answered s limit piece f bytes next bare spelled r short shallow more =
    let p = printed_is_formula s limit piece (Echo f) bytes next bare tt spelled r in
    p.1.answered (p.1.low tt) short shallow more
