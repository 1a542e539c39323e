use Rattle.std.proofs.Common.{rules, ◌≡◌, inl, Err, length, refl, sym, ap, ◌∙◌, subst}
use Rattle.std.specs.List.{AllByRecursion}
use Rattle.formula_store.specs.Nodes.{IsId}
use Rattle.formula_store.proofs.Makes.{keeps_then}
use Rattle.smt_language.specs.Trees.{Check}
use Rattle.program_meaning.specs.SmtState.{State}
use Rattle.program_meaning.specs.declared.smt_error.SmtError.TheVariants as error
use Rattle.program_meaning.specs.declared.smt_reply.SmtReply.TheVariants as reply
use Rattle.smtlib_front.specs.contracts.smt.Smt.{the_view}
use Rattle.smtlib_front.specs.Represents.{Represents}
use Rattle.smtlib_front.specs.Seen.{Seen, HasValueForEach}
use Rattle.smtlib_front.specs.Steps.{Does, IsAnswered, IsRefused}
use Rattle.smtlib_front.specs.Words.{kept_by}
use Rattle.smtlib_front.proofs.Answered.{memory_refused}
use Rattle.smtlib_front.proofs.Made.{depth_refused, sentence_normal, sentence_closed, sentence_counted, check_answered}
use Rattle.smtlib_front.proofs.States.{ids_under, grown_state}
use Rattle.smtlib_front.proofs.smt.Smt.check.Goals as goal

-- src/checks.rt:38:24
pub sentence_of-requires : goal.sentence_of-requires
sentence_of-requires g c =
    let m : Seen = the_view c.self.inside in
    let s : State = c.requires.state.0 in
    let r : Represents m s = subst (λ v. Represents v s) (sym c.self.view_is) c.requires.state.1 in
    subst (AllByRecursion (IsId c.self.inside.store)) (sym c.deref.ensures.value) (ids_under m s r s.logic r.asserted)

-- src/checks.rt:38:24
pub returns-in_err-sentence-clause-does : goal.returns-in_err-sentence-clause-does
returns-in_err-sentence-clause-does g c =
    let m : Seen = the_view c.self.inside in
    let next : Seen = the_view (record c.self.inside { store = c.sentence_of.new.store }) in
    let told : c.from_residual.result ≡ Err error.Memory = search rules in
    subst (λ v. (s : State) → Represents v s → Does s v.limits.nodes Check c.from_residual.result next) c.self.view_is
    (λ s r. subst (λ q. Does s m.limits.nodes Check q next) (sym told) (memory_refused m s m.limits.nodes r Check c.sentence_of.new.store m.asserted c.sentence_of.ensures.kept refl))

-- src/checks.rt:39:9
pub returns-then-facts-gt-MOST_HEIGHT-clause-does : goal.returns-then-facts-gt-MOST_HEIGHT-clause-does
returns-then-facts-gt-MOST_HEIGHT-clause-does g c =
    let m : Seen = the_view c.self.inside in
    let next : Seen = the_view (record c.self.inside { store = c.sentence_of.new.store }) in
    subst (λ v. (s : State) → Represents v s → IsRefused s v.limits.nodes Check error.Depth next) c.self.view_is
    (λ s r. depth_refused m s m.limits.nodes r c.in-Some.context c.in-Some.is c.sentence_of.new.store c.in_ok-sentence.sentence c.count-count.result c.count-count.ensures c.deref.result.now c.deref.ensures.value c.in_ok-sentence.ensures.made
    c.facts.result.height c.facts.ensures.facts.height_is c.if-facts-gt-MOST_HEIGHT.true c.sentence_of.ensures.kept)

-- src/checks.rt:49:23
pub verdict_of-requires-clause-normal : goal.verdict_of-requires-clause-normal
verdict_of-requires-clause-normal g c κs within =
    let m : Seen = the_view c.self.inside in
    let s : State = c.requires.state.0 in
    let r : Represents m s = subst (λ v. Represents v s) (sym c.self.view_is) c.requires.state.1 in
    sentence_normal m s m.limits.nodes r c.in-Some.context c.in-Some.is c.sentence_of.new.store c.in_ok-sentence.sentence c.count-count.result c.count-count.ensures c.deref.result.now c.deref.ensures.value c.in_ok-sentence.ensures.made
    c.facts.result.height c.facts.ensures.facts.height_is c.if-facts-gt-MOST_HEIGHT.false

-- src/checks.rt:49:23
pub verdict_of-requires-clause-closed : goal.verdict_of-requires-clause-closed
verdict_of-requires-clause-closed g c κs within =
    let m : Seen = the_view c.self.inside in
    let s : State = c.requires.state.0 in
    let r : Represents m s = subst (λ v. Represents v s) (sym c.self.view_is) c.requires.state.1 in
    sentence_closed m s m.limits.nodes r c.in-Some.context c.in-Some.is c.sentence_of.new.store c.in_ok-sentence.sentence c.count-count.result c.count-count.ensures c.deref.result.now c.deref.ensures.value c.in_ok-sentence.ensures.made
    c.facts.result.height c.facts.ensures.facts.height_is c.if-facts-gt-MOST_HEIGHT.false

-- src/checks.rt:49:23
pub returns-in_err-verdict-clause-does : goal.returns-in_err-verdict-clause-does
returns-in_err-verdict-clause-does g c =
    let m : Seen = the_view c.self.inside in
    let next : Seen = the_view (record c.self.inside { store = c.verdict_of.new.store }) in
    let keeps = keeps_then m.formulas c.sentence_of.new.store c.verdict_of.new.store c.sentence_of.ensures.kept c.verdict_of.ensures.kept in
    let told : c.from_residual-in_err-verdict.result ≡ Err error.Memory = search rules in
    subst (λ v. (s : State) → Represents v s → Does s v.limits.nodes Check c.from_residual-in_err-verdict.result next) c.self.view_is
    (λ s r. subst (λ q. Does s m.limits.nodes Check q next) (sym told) (memory_refused m s m.limits.nodes r Check c.verdict_of.new.store m.asserted keeps refl))

-- src/checks.rt:50:20
pub returns-in_err-line-clause-does : goal.returns-in_err-line-clause-does
returns-in_err-line-clause-does g c =
    let m : Seen = the_view c.self.inside in
    let next : Seen = the_view (record c.self.inside { store = c.verdict_of.new.store }) in
    let keeps = keeps_then m.formulas c.sentence_of.new.store c.verdict_of.new.store c.sentence_of.ensures.kept c.verdict_of.ensures.kept in
    let told : c.from_residual-in_err-line.result ≡ Err error.Memory = search rules in
    subst (λ v. (s : State) → Represents v s → Does s v.limits.nodes Check c.from_residual-in_err-line.result next) c.self.view_is
    (λ s r. subst (λ q. Does s m.limits.nodes Check q next) (sym told) (memory_refused m s m.limits.nodes r Check c.verdict_of.new.store m.asserted keeps refl))

-- src/checks.rt:51:9
pub tidy-requires : goal.tidy-requires
tidy-requires g c =
    let m : Seen = the_view c.self.inside in
    let s : State = c.requires.state.0 in
    let r : Represents m s = subst (λ v. Represents v s) (sym c.self.view_is) c.requires.state.1 in
    record { state = (s, grown_state m s r c.verdict_of.new.store (keeps_then m.formulas c.sentence_of.new.store c.verdict_of.new.store c.sentence_of.ensures.kept c.verdict_of.ensures.kept)) }

-- src/checks.rt:51:9
pub returns-in_err-tidy-clause-does : goal.returns-in_err-tidy-clause-does
returns-in_err-tidy-clause-does g c =
    let m : Seen = the_view c.self.inside in
    let keeps = keeps_then m.formulas c.sentence_of.new.store c.verdict_of.new.store c.sentence_of.ensures.kept c.verdict_of.ensures.kept in
    let told : c.from_residual-in_err-tidy.result ≡ Err error.Memory = search rules in
    subst (λ v. (s : State) → Represents v s → Does s v.limits.nodes Check c.from_residual-in_err-tidy.result c.tidy.new.self) c.self.view_is
    (λ s r. subst (λ q. Does s m.limits.nodes Check q c.tidy.new.self) (sym told) (record { cause = inl refl; represents = c.tidy.ensures.state s (grown_state m s r c.verdict_of.new.store keeps) }))

-- src/checks.rt:52:9
pub invariant_of-self-3 : goal.invariant_of-self-3
invariant_of-self-3 g c =
    let m : Seen = the_view c.self.inside in
    let s : State = c.requires.state.0 in
    let r : Represents m s = subst (λ v. Represents v s) (sym c.self.view_is) c.requires.state.1 in
    let counted = sentence_counted m s m.limits.nodes r c.in-Some.context c.in-Some.is c.sentence_of.new.store c.in_ok-sentence.sentence c.count-count.result c.count-count.ensures c.deref.result.now c.deref.ensures.value c.in_ok-sentence.ensures.made
    c.facts.result.height c.facts.ensures.facts.height_is c.if-facts-gt-MOST_HEIGHT.false c.in_ok-verdict.verdict c.in_ok-verdict.ensures.verdict in
    let same : c.self-2.inside.declared ≡ m.declared = ap (λ v. v.declared) c.self-2.view_is ∙ c.tidy.ensures.declared in
    (c.self-2.invariant.0, subst (HasValueForEach (length c.self-2.inside.declared)) (sym c.kept_by.ensures) (subst (λ ns. HasValueForEach (length ns) (kept_by c.in_ok-verdict.verdict)) (sym same) counted))

-- src/checks.rt:26:5
pub returns-clause-does : goal.returns-clause-does
returns-clause-does g c =
    let m : Seen = the_view c.self.inside in
    let after : Seen = the_view c.self-2.inside in
    let next : Seen = the_view (record c.self-2.inside { kept = c.kept_by.result }) in
    let keeps = keeps_then m.formulas c.sentence_of.new.store c.verdict_of.new.store c.sentence_of.ensures.kept c.verdict_of.ensures.kept in
    subst (λ v. (s : State) → Represents v s → IsAnswered s v.limits.nodes Check (reply.Printed c.in_ok-line.line) next) c.self.view_is
    (λ s r.
    let left : Represents after s = subst (λ v. Represents v s) (sym c.self-2.view_is) (c.tidy.ensures.state s (grown_state m s r c.verdict_of.new.store keeps)) in
    subst (λ k. IsAnswered s m.limits.nodes Check (reply.Printed c.in_ok-line.line) (record after { kept = k })) (sym c.kept_by.ensures)
    (check_answered m s m.limits.nodes r c.in-Some.context c.in-Some.is c.sentence_of.new.store c.in_ok-sentence.sentence c.count-count.result c.count-count.ensures c.deref.result.now c.deref.ensures.value c.in_ok-sentence.ensures.made
    c.facts.result.height c.facts.ensures.facts.height_is c.if-facts-gt-MOST_HEIGHT.false c.in_ok-verdict.verdict c.in_ok-verdict.ensures.verdict after left c.in_ok-line.line c.in_ok-line.ensures))
