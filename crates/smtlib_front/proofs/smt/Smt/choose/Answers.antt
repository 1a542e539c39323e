use Rattle.std.proofs.Common.{Some, sym, ◌∙◌, subst}
use Rattle.program_meaning.specs.SmtState.{State}
use Rattle.program_meaning.specs.declared.smt_reply.SmtReply.TheVariants as reply
use Rattle.smt_language.specs.Trees.{Choose}
use Rattle.smtlib_front.specs.contracts.smt.Smt.{the_view}
use Rattle.smtlib_front.specs.Represents.{Represents}
use Rattle.smtlib_front.specs.Seen.{Seen}
use Rattle.smtlib_front.specs.Steps.{IsAnswered}
use Rattle.smtlib_front.proofs.Answered.{chosen_answered}
use Rattle.smtlib_front.proofs.Replied.{none_of}
use Rattle.smtlib_front.proofs.smt.Smt.choose.Goals as goal

pub returns-clause-does : goal.returns-clause-does
returns-clause-does c =
    let m : Seen = the_view c.self.inside in
    let next : Seen = the_view (record c.self.inside { logic = Some c.theory_of.result }) in
    subst (λ v. (s : State) → Represents v s → IsAnswered s v.limits.nodes (Choose c.args.sort) reply.Nothing next) c.self.view_is
    (λ s r. chosen_answered m s m.limits.nodes r c.args.sort c.theory_of.result c.theory_of.ensures (none_of c.self.inside.logic (sym c.is_some.ensures ∙ c.if-is_some.false)))
