use Rattle.std.proofs.Common.{◌≡◌, Bool, List, None, sym, ◌∙◌, subst, rules, Err}
use Rattle.std.specs.Prelude.{Result, IfErr}
use Rattle.language_meaning.specs.Statements.{Grid}
use Rattle.program_meaning.specs.declared.line.StatementError.{StatementError}
use Rattle.form_commands.specs.Replies.{use_of, Refuses}
use Rattle.program_meaning.specs.Meaning.{meaning}
use Rattle.session_state.specs.Numbered.{numbered}
use Rattle.session_state.specs.Keeping.{state_of}
use Rattle.session_state.specs.Scripted.{answered_tree}
use Rattle.point_queries.proofs.GridSteps.{first_session, first_numbers, first_entries, command_refused, command_answered, command_next, command_session}
use Rattle.point_queries.proofs.grids.answer_grid.Goals as goal

pub truths-requires-clause-answers : goal.truths-requires-clause-answers
truths-requires-clause-answers g c _ _ = record { scripted = c.requires.answers.scripted; places = c.requires.answers.places }

pub truths-requires-clause-session : goal.truths-requires-clause-session
truths-requires-clause-session g c _ _ =
    first_session c.args.state.now c.number_command.new.names (answered_tree c.args.formula.now) c.args.axes.now c.deref.result.now (c.deref.ensures.value ∙ c.in_ok-lows.ensures.entries) c.requires.session
    c.in_ok-number_command.ensures.grown c.in_ok-number_command.ensures.numbered c.requires.answers.scripted c.requires.axes

pub truths-requires-clause-numbered : goal.truths-requires-clause-numbered
truths-requires-clause-numbered g c _ _ =
    first_numbers c.args.state.now c.number_command.new.names (answered_tree c.args.formula.now) c.args.axes.now c.deref.result.now (c.deref.ensures.value ∙ c.in_ok-lows.ensures.entries) c.requires.session
    c.in_ok-number_command.ensures.grown c.in_ok-number_command.ensures.numbered c.requires.answers.scripted c.requires.axes

pub truths-requires-clause-valued : goal.truths-requires-clause-valued
truths-requires-clause-valued g c _ _ =
    first_entries c.args.state.now c.number_command.new.names (answered_tree c.args.formula.now) c.args.axes.now c.deref.result.now (c.deref.ensures.value ∙ c.in_ok-lows.ensures.entries) c.requires.session
    c.in_ok-number_command.ensures.grown c.in_ok-number_command.ensures.numbered c.requires.answers.scripted c.requires.axes c.deref-2.result.now (c.deref-2.ensures.value ∙ c.in_ok-lows.ensures.entries)

pub returns-in_err-truths-clause-refused : goal.returns-in_err-truths-clause-refused
returns-in_err-truths-clause-refused g c =
    let axes = c.args.axes.now in
    let f = answered_tree c.args.formula.now in
    let e : c.from_residual-in_err-truths.result ≡ Err c.in_err-truths.field-0.0 = search rules in
    let stop : Result (List Bool) StatementError = Err c.in_err-truths.field-0.0 in
    subst (λ r. IfErr r (Refuses (numbered (meaning (Grid f axes)) (state_of c.args.state.now)) c.args.workshop.now.limits.nodes (use_of None c.args.printed) (Grid f axes))) (sym e)
    (command_refused c.args.state.now c.number_command.new.names (answered_tree c.args.formula.now) c.args.axes.now c.deref.result.now (c.deref.ensures.value ∙ c.in_ok-lows.ensures.entries) c.requires.session
    c.in_ok-number_command.ensures.grown c.in_ok-number_command.ensures.numbered c.requires.answers.scripted c.requires.axes
    stop c.args.workshop.now.limits.nodes c.args.printed c.in_err-truths.ensures.refused)

pub returns-clause-session : goal.returns-clause-session
returns-clause-session g c =
    command_session c.args.state.now c.number_command.new.names (answered_tree c.args.formula.now) c.args.axes.now c.deref.result.now (c.deref.ensures.value ∙ c.in_ok-lows.ensures.entries) c.requires.session
    c.in_ok-number_command.ensures.grown c.in_ok-number_command.ensures.numbered c.requires.answers.scripted c.requires.axes
    c.truths.new.state c.in_ok-truths.ensures.kept c.line_of_truths.result

pub returns-clause-answer : goal.returns-clause-answer
returns-clause-answer g c =
    command_answered c.args.state.now c.number_command.new.names (answered_tree c.args.formula.now) c.args.axes.now c.deref.result.now (c.deref.ensures.value ∙ c.in_ok-lows.ensures.entries) c.requires.session
    c.in_ok-number_command.ensures.grown c.in_ok-number_command.ensures.numbered c.requires.answers.scripted c.requires.axes
    c.line_of_truths.result c.args.workshop.now.limits.nodes c.args.printed c.in_ok-truths.truths.items c.deref-3.result.now c.in_ok-truths.ensures.truths c.in_ok-truths.ensures.accepted c.deref-3.ensures.value c.line_of_truths.ensures.line
    c.truths.new.state.names

pub returns-clause-next : goal.returns-clause-next
returns-clause-next g c =
    command_next c.args.state.now c.number_command.new.names (answered_tree c.args.formula.now) c.args.axes.now c.deref.result.now (c.deref.ensures.value ∙ c.in_ok-lows.ensures.entries) c.requires.session
    c.in_ok-number_command.ensures.grown c.in_ok-number_command.ensures.numbered c.requires.answers.scripted c.requires.axes
    c.truths.new.state c.in_ok-truths.ensures.kept c.line_of_truths.result
