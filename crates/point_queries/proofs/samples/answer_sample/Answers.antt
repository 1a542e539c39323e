use Rattle.std.proofs.Common.{◌≡◌, None, sym, subst, rules, Err}
use Rattle.std.specs.Prelude.{Result, IfErr}
use Rattle.sample_reference.specs.Seen.{sample_of}
use Rattle.language_meaning.specs.Statements.{Sample}
use Rattle.program_meaning.specs.declared.line.Line.{Line}
use Rattle.program_meaning.specs.declared.line.StatementError.{StatementError}
use Rattle.form_commands.specs.Replies.{use_of, Refuses}
use Rattle.program_meaning.specs.Meaning.{meaning}
use Rattle.session_state.specs.Numbered.{numbered}
use Rattle.session_state.specs.Keeping.{state_of}
use Rattle.session_state.specs.Scripted.{answered_tree}
use Rattle.point_queries.proofs.AskedSteps.{session_named, numbers_there, entries_there, state_later, session_later}
use Rattle.point_queries.proofs.SampleSteps.{sample_refused, sample_answered}
use Rattle.point_queries.proofs.samples.answer_sample.Goals as goal

pub sample-requires-clause-answers : goal.sample-requires-clause-answers
sample-requires-clause-answers g c _ _ = record { scripted = c.requires.answers.scripted; places = c.requires.answers.places }

pub sample-requires-clause-session : goal.sample-requires-clause-session
sample-requires-clause-session g c _ _ = session_named c.args.state.now c.number_command.new.names (answered_tree c.args.formula.now) c.args.entries.now c.requires.session c.in_ok-number_command.ensures.grown c.in_ok-number_command.ensures.numbered c.requires.answers.scripted c.requires.entries

pub sample-requires-clause-numbered : goal.sample-requires-clause-numbered
sample-requires-clause-numbered g c _ _ = numbers_there c.args.state.now c.number_command.new.names (answered_tree c.args.formula.now) c.args.entries.now c.requires.session c.in_ok-number_command.ensures.grown c.in_ok-number_command.ensures.numbered c.requires.answers.scripted c.requires.entries

pub sample-requires-clause-valued : goal.sample-requires-clause-valued
sample-requires-clause-valued g c _ _ = entries_there c.args.state.now c.number_command.new.names (answered_tree c.args.formula.now) c.args.entries.now c.requires.session c.in_ok-number_command.ensures.grown c.in_ok-number_command.ensures.numbered c.requires.answers.scripted c.requires.entries

pub returns-clause-session : goal.returns-clause-session
returns-clause-session g c =
    session_later c.args.state.now c.number_command.new.names (answered_tree c.args.formula.now) c.args.entries.now c.requires.session c.in_ok-number_command.ensures.grown c.in_ok-number_command.ensures.numbered c.requires.answers.scripted c.requires.entries
    c.sample.new.state c.in_ok-sample.ensures.kept c.line_of_sample.result

pub returns-clause-next : goal.returns-clause-next
returns-clause-next g c =
    state_later c.args.state.now c.number_command.new.names (answered_tree c.args.formula.now) c.args.entries.now c.requires.session c.in_ok-number_command.ensures.grown c.in_ok-number_command.ensures.numbered c.requires.answers.scripted c.requires.entries
    c.sample.new.state c.in_ok-sample.ensures.kept c.line_of_sample.result

pub returns-in_err-sample-clause-refused : goal.returns-in_err-sample-clause-refused
returns-in_err-sample-clause-refused g c =
    let f = answered_tree c.args.formula.now in
    let es = c.args.entries.now in
    let e : c.from_residual-in_err-sample.result ≡ Err c.in_err-sample.field-0.0 = search rules in
    let stop : Result Line StatementError = Err c.in_err-sample.field-0.0 in
    subst (λ r. IfErr r (Refuses (numbered (meaning (Sample f es)) (state_of c.args.state.now)) c.args.workshop.now.limits.nodes (use_of None c.args.printed) (Sample f es))) (sym e)
    (sample_refused c.args.state.now c.number_command.new.names (answered_tree c.args.formula.now) c.args.entries.now c.requires.session c.in_ok-number_command.ensures.grown c.in_ok-number_command.ensures.numbered c.requires.answers.scripted c.requires.entries
    c.args.workshop.now.limits.nodes c.args.printed stop c.in_err-sample.ensures.refused)

pub returns-clause-answer : goal.returns-clause-answer
returns-clause-answer g c =
    sample_answered c.args.state.now c.number_command.new.names (answered_tree c.args.formula.now) c.args.entries.now c.requires.session c.in_ok-number_command.ensures.grown c.in_ok-number_command.ensures.numbered c.requires.answers.scripted c.requires.entries
    c.args.workshop.now.limits.nodes c.args.printed c.sample.new.state c.in_ok-sample.ensures.kept (sample_of c.in_ok-sample.sample) c.in_ok-sample.ensures.sample c.line_of_sample.result c.sample.new.state.names c.line_of_sample.ensures.line
