use Rattle.std.proofs.Common.{subst}
use Rattle.written_syntax.specs.StatementSyntaxCodeTrees.{statement_tree}
use Rattle.form_commands.specs.Replies.{BindsFormula}
use Rattle.session_state.specs.Keeping.{state_of}
use Rattle.session_commands.proofs.AskedLemmas.{acted_as}
use Rattle.session_commands.proofs.AnswerLemmas.{reply_to, spelled_binds}
use Rattle.session_commands.proofs.session.reply_to.Goals as goal

pub answer-requires-clause-written : goal.answer-requires-clause-written
answer-requires-clause-written g c _ _ = record { action = c.in-Ok.ensures.writable.action; inner = c.in-Ok.ensures.writable.inner }

pub answer-requires-clause-formula : goal.answer-requires-clause-formula
answer-requires-clause-formula g c _ _ =
    let t = c.in-Ok.statement in
    let w = c.in-Ok.ensures.writable in
    subst (λ a. BindsFormula a) (acted_as t.action (record { action = w.action; inner = w.inner })).tree (spelled_binds c.args.bytes.now (statement_tree t) c.in-Ok.ensures.spelled)

pub returns-in-Ok-clause-reply : goal.returns-in-Ok-clause-reply
returns-in-Ok-clause-reply g c =
    reply_to (state_of c.args.state.now) (state_of c.answer.new.state) c.args.workshop.now.limits.nodes c.args.bytes.now c.in-Ok.statement c.in-Ok.ensures.spelled c.answer.result
    c.answer.ensures.answer c.answer.ensures.refusal c.answer.ensures.unchanged
