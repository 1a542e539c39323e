use Rattle.session_state.specs.Scripted.{answered_tree}
use Rattle.session_commands.proofs.Retries.{settled, again_session, again_answered, again_refused, again_grown}
use Rattle.session_commands.proofs.formulas.answer_numbered.Goals as goal

pub attempt-requires-in-Some-clause-session : goal.attempt-requires-in-Some-clause-session
attempt-requires-in-Some-clause-session g c _ _ =
    again_session c.args.wanted (answered_tree c.args.formula.now) c.args.workshop.now.limits.nodes c.args.target.now c.args.printed c.args.state.now c.attempt.new.state c.requires.session c.in-Err.error
    c.requires.first c.in-Err.ensures.refused c.in-Err.ensures.kept c.in-Some.plain c.in-Some.ensures.0 c.in-Some.ensures.1

pub returns-in-Some-clause-answer : goal.returns-in-Some-clause-answer
returns-in-Some-clause-answer g c =
    again_answered c.args.wanted (answered_tree c.args.formula.now) c.args.workshop.now.limits.nodes c.args.target.now c.args.printed c.args.state.now c.attempt.new.state c.requires.session c.in-Err.error
    c.requires.first c.in-Err.ensures.refused c.in-Err.ensures.kept c.in-Some.plain c.in-Some.ensures.0 c.in-Some.ensures.1 c.attempt-in-Some.result c.attempt-in-Some.new.state c.attempt-in-Some.ensures.answer

pub returns-in-Some-clause-refused : goal.returns-in-Some-clause-refused
returns-in-Some-clause-refused g c =
    again_refused c.args.wanted (answered_tree c.args.formula.now) c.args.workshop.now.limits.nodes c.args.target.now c.args.printed c.args.state.now c.attempt.new.state c.requires.session c.in-Err.error
    c.requires.first c.in-Err.ensures.refused c.in-Err.ensures.kept c.in-Some.plain c.in-Some.ensures.0 c.in-Some.ensures.1 c.attempt-in-Some.result c.attempt-in-Some.ensures.refused

pub returns-in-Some-clause-grown : goal.returns-in-Some-clause-grown
returns-in-Some-clause-grown g c =
    again_grown c.args.wanted (answered_tree c.args.formula.now) c.args.workshop.now.limits.nodes c.args.target.now c.args.printed c.args.state.now c.attempt.new.state c.requires.session c.in-Err.error
    c.requires.first c.in-Err.ensures.refused c.in-Err.ensures.kept c.in-Some.plain c.in-Some.ensures.0 c.in-Some.ensures.1 c.attempt-in-Some.result c.attempt-in-Some.new.state c.attempt-in-Some.ensures.grown

pub returns-in-None-clause-refused : goal.returns-in-None-clause-refused
returns-in-None-clause-refused g c =
    settled c.args.wanted (answered_tree c.args.formula.now) c.args.workshop.now.limits.nodes c.args.target.now c.args.printed c.args.state.now c.attempt.new.state c.requires.session c.in-Err.error
    c.requires.first c.in-Err.ensures.refused c.in-Err.ensures.kept c.in-None.ensures
