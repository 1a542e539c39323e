use Rattle.std.proofs.Common.{map}
use Rattle.language_meaning.specs.Trees.{formulas_of}
use Rattle.session_state.specs.Scripted.{answered_tree}
use Rattle.written_syntax.specs.CodeTrees.{formula_tree}
use Rattle.session_state.proofs.StateLemmas.{same_session, keeps_then}
use Rattle.form_commands.proofs.PlainFormulas.{answers_stay}
use Rattle.point_queries.proofs.CaseSteps.{answered_again, refused_again}
use Rattle.point_queries.proofs.cases.answer_numbered.Goals as goal

pub attempt-requires-in-Err-Text-clause-answers : goal.attempt-requires-in-Err-Text-clause-answers
attempt-requires-in-Err-Text-clause-answers g c _ _ = answers_stay c.args.state.now c.attempt.new.state c.attempt.ensures.kept c.args.formula.now c.requires.answers

pub attempt-requires-in-Err-Text-clause-session : goal.attempt-requires-in-Err-Text-clause-session
attempt-requires-in-Err-Text-clause-session g c _ _ = same_session c.args.state.now c.attempt.new.state c.requires.session c.attempt.ensures.kept

pub returns-in-Err-Text-clause-answer : goal.returns-in-Err-Text-clause-answer
returns-in-Err-Text-clause-answer g c =
    answered_again c.args.state.now c.attempt.new.state c.requires.session c.attempt.ensures.kept c.args.workshop.now.limits.nodes c.args.printed
    (answered_tree c.args.formula.now) (formulas_of (map formula_tree c.args.given.now)) c.attempt-in-Err-Text.result c.attempt-in-Err-Text.new.state.names c.attempt-in-Err-Text.ensures.answer

pub returns-in-Err-Text-clause-refused : goal.returns-in-Err-Text-clause-refused
returns-in-Err-Text-clause-refused g c =
    refused_again c.args.state.now c.attempt.new.state c.requires.session c.attempt.ensures.kept c.args.workshop.now.limits.nodes c.args.printed
    (answered_tree c.args.formula.now) (formulas_of (map formula_tree c.args.given.now)) c.attempt-in-Err-Text.result c.attempt-in-Err-Text.ensures.refused

pub returns-in-Err-Text-clause-kept : goal.returns-in-Err-Text-clause-kept
returns-in-Err-Text-clause-kept g c = keeps_then c.args.state.now c.attempt.new.state c.attempt-in-Err-Text.new.state c.attempt.ensures.kept c.attempt-in-Err-Text.ensures.kept
