use Rattle.std.proofs.Common.{sym, subst}
use Rattle.program_meaning.specs.Replies.{ignores, exits}
use Rattle.program_meaning.specs.declared.smt_reply.SmtReply.TheVariants as reply
use Rattle.smt_tokens.specs.CodeTrees.{command_tree}
use Rattle.smtlib_front.specs.Steps.{IsAnswered}
use Rattle.smtlib_front.proofs.Causes.{ignored_accepted, exit_accepted}
use Rattle.smtlib_front.proofs.smt.Smt.answer.Goals as goal

pub returns-in-Ignored-clause-does : goal.returns-in-Ignored-clause-does
returns-in-Ignored-clause-does g c = λ s r.
    subst (λ k. IsAnswered s c.args.self.now.limits.nodes (command_tree k) reply.Nothing c.args.self.now) (sym c.in-Ignored.is)
    (record { next = s; accepted = ignored_accepted s c.args.self.now.limits.nodes; answers = ignores; represents = r })

pub returns-in-Exit-clause-does : goal.returns-in-Exit-clause-does
returns-in-Exit-clause-does g c = λ s r.
    subst (λ k. IsAnswered s c.args.self.now.limits.nodes (command_tree k) reply.Finished c.args.self.now) (sym c.in-Exit.is)
    (record { next = s; accepted = exit_accepted s c.args.self.now.limits.nodes; answers = exits; represents = r })
