use Rattle.std.proofs.Common.{◌∙◌, ap, sym}
use Rattle.language_meaning.specs.Statements.{Say, Assign}
use Rattle.session_state.specs.Keeping.{state_of}
use Rattle.session_commands.specs.Asking.{asked_action, asked_command}
use Rattle.session_commands.proofs.AnswerLemmas.{say_answered, say_refused, formula_assigned, assign_refused}
use Rattle.session_commands.proofs.session.act.Goals as goal

pub returns-in-Say-clause-answer : goal.returns-in-Say-clause-answer
returns-in-Say-clause-answer g c =
    say_answered c.say.result (asked_action c.args.statement.now.action) (asked_command c.deref.result.now) (state_of c.args.state.now) (state_of c.say.new.state) c.args.workshop.now.limits.nodes c.args.statement.now.printed
    (ap asked_action c.in-Say.is ∙ ap (λ d. Say (asked_command d)) (sym c.deref.ensures)) c.say.ensures.answer

pub returns-in-Say-clause-refusal : goal.returns-in-Say-clause-refusal
returns-in-Say-clause-refusal g c =
    say_refused c.say.result (asked_action c.args.statement.now.action) (asked_command c.deref.result.now) (state_of c.args.state.now) c.args.workshop.now.limits.nodes c.args.statement.now.printed
    (ap asked_action c.in-Say.is ∙ ap (λ d. Say (asked_command d)) (sym c.deref.ensures)) c.say.ensures.refusal

pub returns-in-Assign-clause-answer : goal.returns-in-Assign-clause-answer
returns-in-Assign-clause-answer g c =
    let d = c.deref-in-Assign.result.now in
    formula_assigned c.answer_form_command.result (asked_action c.args.statement.now.action) c.in-Assign.name (asked_command d) (state_of c.args.state.now) (state_of c.answer_form_command.new.state) c.args.workshop.now.limits.nodes c.args.statement.now.printed
    (ap asked_action c.in-Assign.is ∙ ap (λ b. Assign c.in-Assign.name (asked_command b)) (sym c.deref-in-Assign.ensures)) c.answer_form_command.ensures.answer

pub returns-in-Assign-clause-refusal : goal.returns-in-Assign-clause-refusal
returns-in-Assign-clause-refusal g c =
    let d = c.deref-in-Assign.result.now in
    assign_refused c.answer_form_command.result (asked_action c.args.statement.now.action) c.in-Assign.name (asked_command d) (state_of c.args.state.now) c.args.workshop.now.limits.nodes c.args.statement.now.printed
    (ap asked_action c.in-Assign.is ∙ ap (λ b. Assign c.in-Assign.name (asked_command b)) (sym c.deref-in-Assign.ensures)) c.answer_form_command.ensures.refusal
