use Rattle.std.proofs.Common.{rules, ◌≡◌, ℕ, List, [], ◌∷◌, ◌++◌, Ok, refl, sym, ap, ◌∙◌, subst, append-nil}
use Rattle.program_meaning.specs.declared.line.Line.{Line}
use Rattle.program_meaning.specs.declared.line.Line.TheVariants as line
use Rattle.program_meaning.specs.Reply.{Reply}
use Rattle.session_commands.specs.Seen.{state_in}
use Rattle.redlog_run.proofs.Replies.{adds_finished, adds_line, adds_refusal, nothing_goes_on, printed_goes_on}
use Rattle.redlog_run.proofs.answer.answer_piece.Goals as goal

pub returns-in-Ok-Finished-clause-adds : goal.returns-in-Ok-Finished-clause-adds
returns-in-Ok-Finished-clause-adds g c =
    let s = state_in c.args.session.now in
    let limit = c.args.session.now.limits.nodes in
    let next = state_in c.statement.new.self in
    adds_finished s limit c.args.piece.now c.args.offset next c.args.answers.now.lines.items c.args.answers.now.refused
    (subst (λ (l : Line). Reply s limit c.args.piece.now (Ok l) next) c.in-Ok-Finished.field-0-is c.in-Ok-Finished.ensures.reply)

pub returns-in-Ok-Nothing-clause-adds : goal.returns-in-Ok-Nothing-clause-adds
returns-in-Ok-Nothing-clause-adds g c =
    let s = state_in c.args.session.now in
    let limit = c.args.session.now.limits.nodes in
    let next = state_in c.statement.new.self in
    adds_line s limit c.args.piece.now c.args.offset next c.args.answers.now.lines.items c.args.answers.now.refused line.Nothing c.args.answers.now.lines.items c.args.answers.now.refused nothing_goes_on
    (subst (λ (l : Line). Reply s limit c.args.piece.now (Ok l) next) c.in-Ok-Nothing.field-0-is c.in-Ok-Nothing.ensures.reply) (sym (append-nil c.args.answers.now.lines.items)) refl

pub returns-in_ok-add_line-in-Ok-Printed-clause-adds : goal.returns-in_ok-add_line-in-Ok-Printed-clause-adds
returns-in_ok-add_line-in-Ok-Printed-clause-adds g c =
    let s = state_in c.args.session.now in
    let limit = c.args.session.now.limits.nodes in
    let next = state_in c.statement.new.self in
    let text : c.deref.result.now ≡ c.in-Ok-Printed.text.items = search rules in
    adds_line s limit c.args.piece.now c.args.offset next c.args.answers.now.lines.items c.args.answers.now.refused (line.Printed c.in-Ok-Printed.text) c.add_line.new.answers.lines.items c.add_line.new.answers.refused
    (printed_goes_on c.in-Ok-Printed.text)
    (subst (λ (l : Line). Reply s limit c.args.piece.now (Ok l) next) c.in-Ok-Printed.field-0-is c.in-Ok-Printed.ensures.reply)
    (◌∙◌ {A = List ℕ} c.in_ok-add_line-in-Ok-Printed.ensures.lines (ap (λ (bytes : List ℕ). c.args.answers.now.lines.items ++ (bytes ++ 10 ∷ [])) text)) c.add_line.ensures.refused

pub returns-in_ok-add_refusal-in-Err-clause-adds : goal.returns-in_ok-add_refusal-in-Err-clause-adds
returns-in_ok-add_refusal-in-Err-clause-adds g c =
    let s = state_in c.args.session.now in
    let limit = c.args.session.now.limits.nodes in
    let next = state_in c.statement.new.self in
    adds_refusal s limit c.args.piece.now c.args.offset next c.args.answers.now.lines.items c.args.answers.now.refused c.in-Err.error c.add_refusal.new.answers.lines.items c.add_refusal.new.answers.refused
    c.in_ok-add_refusal-in-Err.ensures.cause c.in-Err.ensures.reply c.in_ok-add_refusal-in-Err.ensures.lines c.in_ok-add_refusal-in-Err.ensures.refused
