use Rattle.std.proofs.Common.{rules, ◌≡◌, ℕ, ◌<◌, ◌≤◌, List, map, length, Bool, Option, Some, None, false, not, sym, ap, ◌∙◌, subst}
use Rattle.std.specs.Prelude.{is_some}
use Rattle.exact_numbers.specs.Fraction.{frac_of}
use Rattle.exact_numbers.specs.declared.fraction.Fraction.{Fraction}
use Rattle.normal_atoms.specs.declared.atoms.Context.{Context as Theory}
use Rattle.logic_meaning.specs.Writing.{text_limit}
use Rattle.program_meaning.specs.SmtState.{State}
use Rattle.program_meaning.specs.SmtState as state
use Rattle.program_meaning.specs.Texts.{values_text}
use Rattle.program_meaning.specs.declared.smt_error.SmtError.TheVariants as error
use Rattle.program_meaning.specs.declared.smt_reply.SmtReply.TheVariants as reply
use Rattle.smt_language.specs.Trees.{Values}
use Rattle.smtlib_front.specs.contracts.smt.Smt.{the_view}
use Rattle.smtlib_front.specs.Represents.{Represents, kept_of}
use Rattle.smtlib_front.specs.Seen.{Seen, HasValueForEach}
use Rattle.smtlib_front.specs.Steps.{IsAnswered, IsRefused}
use Rattle.smtlib_front.specs.declared.kept.Kept.TheVariants as kept
use Rattle.smtlib_front.proofs.Answered.{undeclared_refused, large_refused, long_refused, values_answered}
use Rattle.smtlib_front.proofs.Replied.{some_is}
use Rattle.smtlib_front.proofs.smt.Smt.values.Goals as goal
use Rattle.smtlib_front.proofs.smt.Smt.values.Goals.{in-TooLarge, in-Values}

-- the logic of a state in which values are told
chosen : {X : Type 0} (o : Option X) (b : Bool) → is_some o ≡ not b → b ≡ false → (t : X) × (o ≡ Some t)
chosen o b e f = some_is o (e ∙ ap not f)

none_some : {X : Type 0} {a : X} → None ≡ Some a → ⊥
none_some e = absurd (cc)

some_same : {X : Type 0} {a b : X} → Some a ≡ Some b → a ≡ b
some_same e = cc

-- the line of the values
abbrev pub line_of : List (List ℕ) → List (List ℕ) → List Fraction → List ℕ
line_of declared xs vs = values_text declared (map frac_of vs) xs

pub returns-then-has_undeclared : goal.returns-then-has_undeclared
returns-then-has_undeclared c =
    let m : Seen = the_view c.self.inside in
    let logic : (t : Theory) × (m.logic ≡ Some t) = chosen m.logic c.is_none.result c.is_none.ensures c.if-is_none.false in
    let some : kept_of m.kept ≡ state.Nothing → ⊥ = λ n. elim c.match-self.branch [
      | in-TooLarge w ↦ let e : state.TooLarge ≡ state.Nothing = sym (ap kept_of w.in-TooLarge.is) ∙ n in absurd (cc)
      | in-Values w ↦ let e = sym (ap kept_of w.in-Values.is) ∙ n in absurd (cc)
    ] in
    subst (λ v. (s : State) → Represents v s → IsRefused s v.limits.nodes (Values c.args.asked.now) error.Undeclared v) c.self.view_is
    (λ s r. undeclared_refused m s m.limits.nodes r logic.0 logic.1 c.args.asked.now (sym c.has_undeclared.ensures ∙ c.if-has_undeclared.true) some)

pub returns-in_default : goal.returns-in_default
returns-in_default c =
    let m : Seen = the_view c.self.inside in
    let logic : (t : Theory) × (m.logic ≡ Some t) = chosen m.logic c.is_none.result c.is_none.ensures c.if-is_none.false in
    let large : m.kept ≡ kept.TooLarge = elim c.match-self.branch [
      | in-TooLarge w ↦ w.in-TooLarge.is
      | in-Values w ↦ absurd (none_some (sym c.in_default.is ∙ w.values-is))
    ] in
    subst (λ v. (s : State) → Represents v s → IsRefused s v.limits.nodes (Values c.args.asked.now) error.Overflow v) c.self.view_is
    (λ s r. large_refused m s m.limits.nodes r logic.0 logic.1 c.args.asked.now (sym c.has_undeclared.ensures ∙ c.if-has_undeclared.false) large)

pub values_text-requires-clause-count : goal.values_text-requires-clause-count
values_text-requires-clause-count c =
    let kept_so : c.self.inside.kept ≡ kept.Values c.in-Some.values.now = elim c.match-self.branch [
      | in-TooLarge w ↦ absurd (none_some (sym w.values-is ∙ c.in-Some.is))
      | in-Values w ↦ w.in-Values.is ∙ ap (λ b. kept.Values b.now) (some_same (sym w.values-is ∙ c.in-Some.is))
    ] in
    ap length c.deref.ensures.value ∙ subst (HasValueForEach (length c.self.inside.declared)) kept_so c.self.invariant.1

pub returns-in-Ok : goal.returns-in-Ok
returns-in-Ok c =
    let m : Seen = the_view c.self.inside in
    let logic : (t : Theory) × (m.logic ≡ Some t) = chosen m.logic c.is_none.result c.is_none.ensures c.if-is_none.false in
    let kept_so : c.self.inside.kept ≡ kept.Values c.in-Some.values.now = elim c.match-self.branch [
      | in-TooLarge w ↦ absurd (none_some (sym w.values-is ∙ c.in-Some.is))
      | in-Values w ↦ w.in-Values.is ∙ ap (λ b. kept.Values b.now) (some_same (sym w.values-is ∙ c.in-Some.is))
    ] in
    subst (λ v. (s : State) → Represents v s → IsAnswered s v.limits.nodes (Values c.args.asked.now) (reply.Printed c.in-Ok.line) v) c.self.view_is
    (λ s r. values_answered m s m.limits.nodes r logic.0 logic.1 c.args.asked.now (sym c.has_undeclared.ensures ∙ c.if-has_undeclared.false) c.in-Some.values.now kept_so c.in-Ok.line
    (c.in-Ok.ensures.text ∙ ap (line_of m.declared c.args.asked.now) c.deref.ensures.value)
    (subst (λ vs. length (line_of m.declared c.args.asked.now vs) ≤ text_limit) c.deref.ensures.value c.in-Ok.ensures.short))

pub returns-in-Err-Text : goal.returns-in-Err-Text
returns-in-Err-Text c =
    let m : Seen = the_view c.self.inside in
    let logic : (t : Theory) × (m.logic ≡ Some t) = chosen m.logic c.is_none.result c.is_none.ensures c.if-is_none.false in
    let kept_so : c.self.inside.kept ≡ kept.Values c.in-Some.values.now = elim c.match-self.branch [
      | in-TooLarge w ↦ absurd (none_some (sym w.values-is ∙ c.in-Some.is))
      | in-Values w ↦ w.in-Values.is ∙ ap (λ b. kept.Values b.now) (some_same (sym w.values-is ∙ c.in-Some.is))
    ] in
    subst (λ v. (s : State) → Represents v s → IsRefused s v.limits.nodes (Values c.args.asked.now) error.Text v) c.self.view_is
    (λ s r. long_refused m s m.limits.nodes r logic.0 logic.1 c.args.asked.now (sym c.has_undeclared.ensures ∙ c.if-has_undeclared.false) c.in-Some.values.now kept_so
    (subst (λ vs. text_limit < length (line_of m.declared c.args.asked.now vs)) c.deref.ensures.value (c.in-Err-Text.ensures.long (search rules))))
