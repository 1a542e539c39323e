use Rattle.std.proofs.Common.{map}
use Rattle.language_meaning.specs.Trees.{formulas_of}
use Rattle.session_state.specs.Scripted.{answered_tree}
use Rattle.written_syntax.specs.CodeTrees.{formula_tree}
use Rattle.point_queries.proofs.CaseSteps.{session_named, numbers_there, cases_told, cases_refused, state_later, session_later}
use Rattle.point_queries.proofs.cases.answer_cases.Goals as goal

pub answer_numbered-requires-clause-answers : goal.answer_numbered-requires-clause-answers
answer_numbered-requires-clause-answers g c _ _ = record { scripted = c.requires.answers.scripted; places = c.requires.answers.places }

pub answer_numbered-requires-clause-session : goal.answer_numbered-requires-clause-session
answer_numbered-requires-clause-session g c _ _ =
    session_named c.args.state.now c.number_parts.new.names (answered_tree c.args.formula.now) (formulas_of (map formula_tree c.args.given.now)) c.requires.session c.number_parts.ensures.grown c.in_ok-number_parts.ensures.numbered
    c.requires.answers.scripted c.requires.given

pub answer_numbered-requires-clause-numbered : goal.answer_numbered-requires-clause-numbered
answer_numbered-requires-clause-numbered g c _ _ =
    numbers_there c.args.state.now c.number_parts.new.names (answered_tree c.args.formula.now) (formulas_of (map formula_tree c.args.given.now)) c.requires.session c.number_parts.ensures.grown c.in_ok-number_parts.ensures.numbered
    c.requires.answers.scripted c.requires.given

pub returns-clause-session : goal.returns-clause-session
returns-clause-session g c =
    session_later c.args.state.now c.number_parts.new.names (answered_tree c.args.formula.now) (formulas_of (map formula_tree c.args.given.now)) c.requires.session c.number_parts.ensures.grown c.in_ok-number_parts.ensures.numbered
    c.requires.answers.scripted c.requires.given c.answer_numbered.new.state c.answer_numbered.ensures.kept c.answer_numbered.result

pub returns-clause-answer : goal.returns-clause-answer
returns-clause-answer g c =
    cases_told c.args.state.now c.number_parts.new.names (answered_tree c.args.formula.now) (formulas_of (map formula_tree c.args.given.now)) c.requires.session c.number_parts.ensures.grown c.in_ok-number_parts.ensures.numbered
    c.requires.answers.scripted c.requires.given c.answer_numbered.result c.args.workshop.now.limits.nodes c.args.printed c.answer_numbered.new.state.names c.answer_numbered.ensures.answer

pub returns-clause-next : goal.returns-clause-next
returns-clause-next g c =
    state_later c.args.state.now c.number_parts.new.names (answered_tree c.args.formula.now) (formulas_of (map formula_tree c.args.given.now)) c.requires.session c.number_parts.ensures.grown c.in_ok-number_parts.ensures.numbered
    c.requires.answers.scripted c.requires.given c.answer_numbered.new.state c.answer_numbered.ensures.kept c.answer_numbered.result

pub returns-clause-refused : goal.returns-clause-refused
returns-clause-refused g c =
    cases_refused c.args.state.now c.number_parts.new.names (answered_tree c.args.formula.now) (formulas_of (map formula_tree c.args.given.now)) c.requires.session c.number_parts.ensures.grown c.in_ok-number_parts.ensures.numbered
    c.requires.answers.scripted c.requires.given c.answer_numbered.result c.args.workshop.now.limits.nodes c.args.printed c.answer_numbered.ensures.refused
