use Rattle.std.proofs.Common.{rules, ◌≡◌, Err, sym, subst}
use Rattle.program_meaning.specs.SmtState.{State}
use Rattle.smt_resolver.specs.AssertionWords.{of_assertion}
use Rattle.program_meaning.specs.declared.smt_error.SmtError.TheVariants as error
use Rattle.program_meaning.specs.declared.smt_reply.SmtReply.TheVariants as reply
use Rattle.smt_tokens.specs.CodeTrees.{expression_tree}
use Rattle.smt_language.specs.Trees.{Assert}
use Rattle.smtlib_front.specs.contracts.smt.Smt.{the_view}
use Rattle.smtlib_front.specs.Represents.{Represents}
use Rattle.smtlib_front.specs.Seen.{Seen}
use Rattle.smtlib_front.specs.Steps.{Does, IsAnswered, IsRefused}
use Rattle.smtlib_front.specs.declared.kept.Kept.TheVariants as kept
use Rattle.smtlib_front.proofs.Answered.{asserted_answered, assertion_not_answered, memory_refused}
use Rattle.smtlib_front.proofs.smt.Smt.assert.Goals as goal

pub returns-in_err-id-clause-does : goal.returns-in_err-id-clause-does
returns-in_err-id-clause-does c =
    let m : Seen = the_view c.self.inside in
    let next : Seen = the_view (record c.self.inside { store = c.asserted.new.maker }) in
    let told : c.from_residual.result ≡ Err (of_assertion c.in_err-id.field-0.0) = search rules in
    subst (λ v. (s : State) → Represents v s → Does s v.limits.nodes (Assert (expression_tree c.args.expression.now)) c.from_residual.result next) c.self.view_is
    (λ s r. subst (λ q. Does s m.limits.nodes (Assert (expression_tree c.args.expression.now)) q next) (sym told)
    (assertion_not_answered m s m.limits.nodes r c.in-Some.context c.in-Some.is (expression_tree c.args.expression.now) c.asserted.new.maker c.in_err-id.ensures.kept c.in_err-id.field-0.0 c.in_err-id.ensures.refused))

pub returns-in-Err-clause-does : goal.returns-in-Err-clause-does
returns-in-Err-clause-does c =
    let m : Seen = the_view c.self.inside in
    let next : Seen = the_view (record c.self.inside { store = c.asserted.new.maker; asserted = c.push.new.self }) in
    subst (λ v. (s : State) → Represents v s → IsRefused s v.limits.nodes (Assert (expression_tree c.args.expression.now)) error.Memory next) c.self.view_is
    (λ s r. memory_refused m s m.limits.nodes r (Assert (expression_tree c.args.expression.now)) c.asserted.new.maker c.push.new.self.items c.in_ok-id.ensures.kept c.in-Err.ensures.items)

pub returns-clause-does : goal.returns-clause-does
returns-clause-does c =
    let m : Seen = the_view c.self.inside in
    let next : Seen = the_view (record c.self.inside { store = c.asserted.new.maker; asserted = c.push.new.self; kept = kept.Nothing }) in
    subst (λ v. (s : State) → Represents v s → IsAnswered s v.limits.nodes (Assert (expression_tree c.args.expression.now)) reply.Nothing next) c.self.view_is
    (λ s r. asserted_answered m s m.limits.nodes r c.in-Some.context c.in-Some.is (expression_tree c.args.expression.now) c.asserted.new.maker c.in_ok-id.ensures.kept c.in_ok-id.id c.push.new.self.items
    c.requires.proper c.in_ok-id.ensures.asserted c.in_default-push.ensures.items)
