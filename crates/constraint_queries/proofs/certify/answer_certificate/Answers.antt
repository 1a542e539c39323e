use Rattle.std.proofs.Common.{map}
use Rattle.language_meaning.specs.Trees.{formulas_of}
use Rattle.written_syntax.specs.CodeTrees.{formula_tree}
use Rattle.constraint_queries.proofs.NameSteps.{session_named, numbers_there, session_later, state_later}
use Rattle.constraint_queries.proofs.certify.answer_certificate.Goals as goal

pub answer_numbered-requires-clause-session : goal.answer_numbered-requires-clause-session
answer_numbered-requires-clause-session c =
    session_named c.args.state.now c.number_all.new.names (formulas_of (map formula_tree c.args.written.now)) c.requires.session c.number_all.ensures.grown c.in_ok-number_all.ensures.numbered c.requires.proper

pub answer_numbered-requires-clause-numbered : goal.answer_numbered-requires-clause-numbered
answer_numbered-requires-clause-numbered c =
    numbers_there c.args.state.now c.number_all.new.names (formulas_of (map formula_tree c.args.written.now)) c.requires.session c.number_all.ensures.grown c.in_ok-number_all.ensures.numbered c.requires.proper

pub returns-clause-session : goal.returns-clause-session
returns-clause-session c =
    session_later c.args.state.now c.number_all.new.names (formulas_of (map formula_tree c.args.written.now)) c.requires.session c.number_all.ensures.grown c.in_ok-number_all.ensures.numbered c.requires.proper
    c.answer_numbered.new.state c.answer_numbered.ensures.kept c.answer_numbered.result

pub returns-clause-next : goal.returns-clause-next
returns-clause-next c =
    state_later c.args.state.now c.number_all.new.names (formulas_of (map formula_tree c.args.written.now)) c.requires.session c.number_all.ensures.grown c.in_ok-number_all.ensures.numbered c.requires.proper
    c.answer_numbered.new.state c.answer_numbered.ensures.kept c.answer_numbered.result
