use Rattle.std.proofs.Common.{◌≡◌, ◌∙◌, [], subst, rules}
use Rattle.program_meaning.specs.Reply.{Reply}
use Rattle.session_state.specs.Keeping.{state_of}
use Rattle.session_commands.specs.Seen.{state_in}
use Rattle.session_commands.proofs.ThroughLemmas.{seen_state}
use Rattle.session_commands.proofs.session.Session.statement.Goals as goal

pub returns-clause-reply : goal.returns-clause-reply
returns-clause-reply g c =
    let limits = c.args.self.now.limits in
    let kept = c.in_default.ensures.state in
    let d = c.self.inside.state in
    let settled : d.answers.items ≡ [] = search rules in
    let viewed : state_in (record { context = d.context; names = d.names; bindings = d.bindings; standing = d.standing; formulas = d.store; limits = limits }) ≡ state_in c.args.self.now = search rules in
    let seen = seen_state d limits settled ∙ viewed in
    subst (λ s. Reply (state_in c.args.self.now) limits.nodes c.args.bytes.now c.reply_to.result s) (seen_state c.reply_to.new.state limits c.reply_to.ensures.settled)
    (subst (λ s. Reply s limits.nodes c.args.bytes.now c.reply_to.result (state_of c.reply_to.new.state)) (kept ∙ seen) (search rules))
