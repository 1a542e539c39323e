use Rattle.std.proofs.Common.{sym, ◌∙◌, subst}
use Rattle.program_meaning.specs.SmtState.{State}
use Rattle.program_meaning.specs.declared.smt_reply.SmtReply.TheVariants as reply
use Rattle.smt_language.specs.Trees.{Declare}
use Rattle.smtlib_front.specs.contracts.smt.Smt.{the_view}
use Rattle.smtlib_front.specs.Represents.{Represents}
use Rattle.smtlib_front.specs.Seen.{Seen}
use Rattle.smtlib_front.specs.Steps.{IsAnswered}
use Rattle.smtlib_front.specs.declared.kept.Kept.TheVariants as kept
use Rattle.smtlib_front.proofs.Answered.{declared_answered}
use Rattle.smtlib_front.proofs.Replied.{first_true}
use Rattle.smtlib_front.proofs.smt.Smt.declare.Goals as goal

pub returns-clause-does : goal.returns-clause-does
returns-clause-does c =
    let m : Seen = the_view c.self.inside in
    let next : Seen = the_view (record c.self.inside { declared = c.number.new.self; kept = kept.Nothing }) in
    subst (λ v. (s : State) → Represents v s → IsAnswered s v.limits.nodes (Declare c.args.name.now) reply.Nothing next) c.self.view_is
    (λ s r. declared_answered m s m.limits.nodes r c.in-Some.context c.in-Some.is c.args.name.now c.find.result c.number.new.self c.find.ensures
    (sym c.is_some.ensures ∙ c.if-is_some.false) (first_true _ _ (sym c.are_numbers.ensures ∙ c.if-not-are_numbers.false)) (c.in_default-number.ensures.names))
