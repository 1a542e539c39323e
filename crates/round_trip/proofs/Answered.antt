-- The text of a formula of the session is answered with the same text.
use Rattle.std.proofs.Common.{◌≡◌, ◌≢◌, ⊎_elim, ℕ, ◌≤◌, List, [], ◌++◌, true, length, codes, refl, sym, ap, ap₂, ◌∙◌, subst, append-nil, length-append, arith}
use Rattle.std.specs.Prelude.{Result, Ok, Err, None}
use Rattle.std.specs.List.{fold}
use Rattle.std.specs.declared.alloc.Global.{Global}
use Rattle.std.specs.declared.vec.Vec.{Vec}
use Rattle.logic_meaning.specs.Tree.{Tree}
use Rattle.language_meaning.specs.Trees.{FormulaTree}
use Rattle.language_meaning.specs.Statements.{Echo, Say, StatementTree}
use Rattle.logic_meaning.specs.Names.{with_name}
use Rattle.language_meaning.specs.Resolving.{formula_variables, resolve}
use Rattle.resolved_formulas.specs.Accepted.{IsAccepted as IsResolvable}
use Rattle.logic_meaning.specs.Text.{tree_text}
use Rattle.round_trip.specs.Round.{IsReadable, line_text, printed_echo, IsReadBack}
use Rattle.round_trip.proofs.Echo.{text_is_read_back}
use Rattle.program_meaning.specs.declared.line.Line.{Line}
use Rattle.program_meaning.specs.declared.line.Line.TheVariants as line
use Rattle.program_meaning.specs.declared.line.StatementError.{StatementError}
use Rattle.program_meaning.specs.declared.line.StatementError.TheVariants as error
use Rattle.language_meaning.specs.Answers.{with_inner}
use Rattle.program_meaning.specs.State.{State, with_names, with_answers, known}
use Rattle.program_meaning.specs.Words.{before}
use Rattle.program_meaning.specs.Meaning.{Meaning, meaning}
use Rattle.session_state.specs.Numbered.{variables}
use Rattle.program_meaning.specs.Uses.{Use}
use Rattle.program_meaning.specs.Causes.{HasLongLine, MayBeCause, HasNone, IsFirst, IsAccepted}
use Rattle.program_meaning.specs.Reply.{IsLine, IsReached, AnswersSaid, Answers, Reply}
use Rattle.form_commands.proofs.CauseLemmas.{no_cause, then_clear, readable_below}
use Rattle.redlog_run.proofs.Unrefused.{plain_state, plain_reached, never, action_refused}
use Rattle.round_trip.specs.ReadBack.{IsBare, IsOwnFormula, IsSameLine, TextIsAnswered}

module _ (s : State) (limit : ℕ) (t : Tree) (bare : IsBare s) (own : IsOwnFormula s t) (readable : IsReadable s.names t) where
  back : IsReadBack s.context s.names (line_text s.names t) t
  back = text_is_read_back s.context s.names t bare.names
      (record { numbers = own.numbers; names = own.formula.within; joins = own.formula.members })
      (record { atoms = own.formula.normal; low = own.low }) readable

  abbrev w : FormulaTree
  w = back.written

  abbrev use_of_line : Use
  use_of_line = record { target = None; printed = true }

  -- its variables have their numbers
  same_names : fold with_name s.names (variables (meaning (Echo w))) ≡ s.names
  same_names = ap (fold with_name s.names) (append-nil (formula_variables w ++ []) ∙ append-nil (formula_variables w)) ∙ back.resolved.same_names

  -- so the state that is reached is this one
  same_state : plain_state (Say (Echo w)) s ≡ s
  same_state = ap₂ (λ ns ts. with_answers (with_names s ns) ts) same_names (sym bare.settled)

  reached : IsReached (printed_echo w) s limit s
  reached = record { answers = []; names = s.names; given = (refl, sym same_names); is = ap (with_answers s) bare.settled }

  -- no name stands for a formula
  nothing_known : known s ≡ []
  nothing_known = ap₂ with_inner bare.settled bare.unbound

  same_tree : resolve s.context (known s) s.names w ≡ t
  same_tree = ap (λ bs. resolve s.context bs s.names w) nothing_known ∙ back.resolved.same_tree

  accepted : IsResolvable s.context (known s) s.names w
  accepted = subst (λ bs. IsResolvable s.context bs s.names w) (sym nothing_known) back.resolved.accepted

  -- the text is shorter than a text may be
  short : length (tree_text s.names t) ≤ 4194304
  short = let l = readable.short in let e = length-append (tree_text s.names t) (codes ";") in omega arith

  abbrev of_line : Meaning
  of_line = meaning (Echo w)

  no_long_line : ¬ (HasLongLine of_line s use_of_line)
  no_long_line k =
      let same : length (tree_text k.names k.formula) ≡ length (tree_text s.names t) = ap₂ (λ ns g. length (tree_text ns g)) k.named (k.determined ∙ same_tree) in
      let long = k.long in
      let l = short in
      omega arith

  none_counted : HasNone of_line s limit use_of_line (before error.Nodes)
  none_counted =
      readable_below of_line s limit use_of_line (back.resolved.same_names, tt) (record { further = refl; context = λ h. h; point = λ h. h; unvalued = λ h. h; nodes = λ h. h }) (accepted, tt) (λ h. h) (λ h. h)

  none_applies : IsAccepted of_line s limit use_of_line
  none_applies =
      let bindings = then_clear of_line s limit use_of_line error.Nodes error.Bindings refl none_counted (λ h. h) in
      let text = then_clear of_line s limit use_of_line error.Bindings error.Text refl bindings (λ h. ⊎_elim (λ k. k) (λ k. absurd k.2) h) in
      then_clear of_line s limit use_of_line error.Text error.Memory refl text (λ h. ⊎_elim no_long_line (λ k. k) h.1)

  may_not : (e : StatementError) → MayBeCause of_line s limit use_of_line e → ⊥
  may_not error.Overflow h = h.1
  may_not error.Nodes h = h.1
  may_not error.Bindings h = absurd h.2
  may_not error.Text h = ⊎_elim (λ k. absurd k.1) (λ k. k) h.2
  may_not _ h = h

  refuses_not : (e : StatementError) → e ≢ error.Memory → IsFirst of_line s limit use_of_line e → ⊥
  refuses_not e other h = ⊎_elim (no_cause of_line s limit use_of_line none_applies e) (may_not e) h.applies

  unrefused : (e : StatementError) → e ≢ error.Memory → IsFirst of_line (plain_state (Say (Echo w)) s) limit use_of_line e → ⊥
  unrefused e other h = refuses_not e other (subst (λ (z : State). IsFirst of_line z limit use_of_line e) same_state h)

  -- ---- the answer

  same_line : (text : List ℕ) (answer : Line) (next : State) → text ≡ tree_text s.names t → next ≡ s → IsLine true text answer → IsSameLine s (tree_text s.names t) (Ok answer) next
  same_line text line.Nothing next e f h = absurd (cc)
  same_line text (line.Printed bytes) next e f h = (h.1 ∙ e, f)
  same_line text line.Finished next e f h = absurd h

  answer_is : (answer : Line) (state after next : State) → IsReached (printed_echo w) s limit state → Answers state limit true (Say (Echo w)) answer after → next ≡ with_answers after []
      → IsSameLine s (tree_text s.names t) (Ok answer) next
  answer_is answer state after next r h left =
      let here : state ≡ s = plain_reached s limit (printed_echo w) state refl r ∙ same_state in
      let a : AnswersSaid of_line s limit true answer after = subst (λ (z : State). AnswersSaid of_line z limit true answer after) here h in
      let told = a.told in
      let stays : after ≡ s = a.after ∙ ap (with_names s) a.named in
      same_line a.text answer next (told.2 ∙ ap₂ (λ ns g. tree_text ns g) a.named (told.1.0 ∙ same_tree)) (left ∙ ap (λ (z : State). with_answers z []) stays ∙ ap (with_answers s) (sym bare.settled)) a.line

  only : (result : Result Line StatementError) (next : State) → Reply s limit (line_text s.names t) result next → IsSameLine s (tree_text s.names t) result next
  only (Ok answer) next r =
      let same = back.spells.alone r.statement r.spelled in
      answer_is answer r.state r.after next (subst (λ (u : StatementTree). IsReached u s limit r.state) same r.reached)
      (subst (λ (u : StatementTree). Answers r.state limit u.printed u.action answer r.after) same r.answered) r.left
  only (Err error.Memory) next r = tt
  only (Err e) next r = absurd (never s limit (line_text s.names t) (printed_echo w) back.spells.spelled (λ d other h. unrefused d other (action_refused s limit (printed_echo w) d refl h)) e next (λ m. absurd (cc)) r)

  -- and there is this one
  answers : (bytes : Vec ℕ Global) → bytes.items ≡ tree_text s.names t → AnswersSaid of_line s limit true (line.Printed bytes) s
  answers bytes e = record {
    accepted = none_applies;
    names = s.names;
    named = refl;
    text = tree_text s.names t;
    told = (t, (sym same_tree, own.numbers), refl);
    line = (refl, e, let l = short in omega arith);
    after = refl;
  }

  answered : (bytes : Vec ℕ Global) → bytes.items ≡ tree_text s.names t → Reply s limit (line_text s.names t) (Ok (line.Printed bytes)) s
  answered bytes e = record {
    statement = printed_echo w;
    spelled = back.spells.spelled;
    state = s;
    reached = reached;
    after = s;
    answered = answers bytes e;
    left = ap (with_answers s) bare.settled;
  }

pub text_is_answered : TextIsAnswered
text_is_answered s limit t bare own readable = record { answered = answered s limit t bare own readable; only = only s limit t bare own readable }
