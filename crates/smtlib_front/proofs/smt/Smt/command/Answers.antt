use Rattle.std.proofs.Common.{rules, ◌≡◌, Err, sym, subst}
use Rattle.smt_theorems.proofs.Spelled.{spelled_proper}
use Rattle.program_meaning.specs.Replies.{Replies, unread}
use Rattle.program_meaning.specs.SmtWords.{of_reading}
use Rattle.smt_tokens.specs.CodeTrees.{command_tree}
use Rattle.smtlib_front.proofs.Replied.{replied}
use Rattle.smtlib_front.proofs.smt.Smt.command.Goals as goal

pub returns-in_err-command-clause-reply : goal.returns-in_err-command-clause-reply
returns-in_err-command-clause-reply g c = λ s r.
    let told : c.from_residual.result ≡ Err (of_reading c.in_err-command.field-0.0) = search rules in
    (s, subst (λ q. Replies s c.args.self.now.limits.nodes c.args.bytes.now q s) (sym told) (unread c.in_err-command.field-0.0 c.in_err-command.ensures.unread), r)

pub answer-requires-clause-proper : goal.answer-requires-clause-proper
answer-requires-clause-proper g c κs within = spelled_proper c.args.bytes.now (command_tree c.in_ok-command.command) c.in_ok-command.ensures.read

pub returns-clause-reply : goal.returns-clause-reply
returns-clause-reply g c = λ s r.
    replied s c.args.self.now.limits.nodes c.args.bytes.now (command_tree c.in_ok-command.command) c.answer.result c.answer.new.self c.in_ok-command.ensures.read (c.answer.ensures.does s r)
