use Rattle.std.proofs.Common.{◌≡◌, Bool, None, sym, subst, rules, Err}
use Rattle.std.specs.Prelude.{Result, IfErr}
use Rattle.language_meaning.specs.Statements.{Holds}
use Rattle.program_meaning.specs.declared.line.StatementError.{StatementError}
use Rattle.form_commands.specs.Replies.{use_of, Refuses}
use Rattle.program_meaning.specs.Meaning.{meaning}
use Rattle.session_state.specs.Numbered.{numbered}
use Rattle.session_state.specs.Keeping.{state_of}
use Rattle.session_state.specs.Scripted.{answered_tree}
use Rattle.point_queries.specs.Truths.{RefusesTruth}
use Rattle.point_queries.proofs.AskedSteps.{named_session, session_named, numbers_there, entries_there, state_later, session_later}
use Rattle.point_queries.proofs.TruthSteps.{truth_refused, truth_answered}
use Rattle.point_queries.proofs.holds.answer_holds.Goals as goal

pub truth-requires-clause-answers : goal.truth-requires-clause-answers
truth-requires-clause-answers g c _ _ = record { scripted = c.requires.answers.scripted; places = c.requires.answers.places }

pub truth-requires-clause-session : goal.truth-requires-clause-session
truth-requires-clause-session g c _ _ = session_named c.args.state.now c.number_command.new.names (answered_tree c.args.formula.now) c.args.entries.now c.requires.session c.in_ok-number_command.ensures.grown c.in_ok-number_command.ensures.numbered c.requires.answers.scripted c.requires.entries

pub truth-requires-clause-numbered : goal.truth-requires-clause-numbered
truth-requires-clause-numbered g c _ _ = numbers_there c.args.state.now c.number_command.new.names (answered_tree c.args.formula.now) c.args.entries.now c.requires.session c.in_ok-number_command.ensures.grown c.in_ok-number_command.ensures.numbered c.requires.answers.scripted c.requires.entries

pub truth-requires-clause-valued : goal.truth-requires-clause-valued
truth-requires-clause-valued g c _ _ = entries_there c.args.state.now c.number_command.new.names (answered_tree c.args.formula.now) c.args.entries.now c.requires.session c.in_ok-number_command.ensures.grown c.in_ok-number_command.ensures.numbered c.requires.answers.scripted c.requires.entries

pub returns-in_err-truth-clause-refused : goal.returns-in_err-truth-clause-refused
returns-in_err-truth-clause-refused g c =
    let state = c.args.state.now in
    let f = answered_tree c.args.formula.now in
    let es = c.args.entries.now in
    let e : c.from_residual-in_err-truth.result ≡ Err c.in_err-truth.field-0.0 = search rules in
    let stop : Result Bool StatementError = Err c.in_err-truth.field-0.0 in
    let refused : IfErr stop (RefusesTruth (state_of (named_session state c.number_command.new.names f es c.requires.session c.in_ok-number_command.ensures.grown c.in_ok-number_command.ensures.numbered c.requires.answers.scripted c.requires.entries)) c.args.workshop.now.limits.nodes f es) = c.in_err-truth.ensures.refused in
    subst (λ r. IfErr r (Refuses (numbered (meaning (Holds f es)) (state_of state)) c.args.workshop.now.limits.nodes (use_of None c.args.printed) (Holds f es))) (sym e)
    (truth_refused state c.number_command.new.names f es c.requires.session c.in_ok-number_command.ensures.grown c.in_ok-number_command.ensures.numbered c.requires.answers.scripted c.requires.entries stop c.args.workshop.now.limits.nodes c.args.printed refused)

pub returns-clause-session : goal.returns-clause-session
returns-clause-session g c =
    session_later c.args.state.now c.number_command.new.names (answered_tree c.args.formula.now) c.args.entries.now c.requires.session c.in_ok-number_command.ensures.grown c.in_ok-number_command.ensures.numbered c.requires.answers.scripted c.requires.entries
    c.truth.new.state c.in_ok-truth.ensures.kept c.printed_line.result

pub returns-clause-answer : goal.returns-clause-answer
returns-clause-answer g c =
    truth_answered c.args.state.now c.number_command.new.names (answered_tree c.args.formula.now) c.args.entries.now c.requires.session c.in_ok-number_command.ensures.grown c.in_ok-number_command.ensures.numbered c.requires.answers.scripted c.requires.entries
    c.printed_line.result c.args.workshop.now.limits.nodes c.args.printed c.in_ok-truth.truth c.text_of_truth.result.now c.in_ok-truth.ensures.truth c.in_ok-truth.ensures.accepted c.text_of_truth.ensures c.printed_line.ensures.line c.truth.new.state.names

pub returns-clause-next : goal.returns-clause-next
returns-clause-next g c =
    state_later c.args.state.now c.number_command.new.names (answered_tree c.args.formula.now) c.args.entries.now c.requires.session c.in_ok-number_command.ensures.grown c.in_ok-number_command.ensures.numbered c.requires.answers.scripted c.requires.entries
    c.truth.new.state c.in_ok-truth.ensures.kept c.printed_line.result
