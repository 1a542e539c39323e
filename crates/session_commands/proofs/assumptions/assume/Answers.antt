use Rattle.std.proofs.Common.{map}
use Rattle.language_meaning.specs.Trees.{formulas_of}
use Rattle.written_syntax.specs.CodeTrees.{formula_tree}
use Rattle.session_commands.proofs.StandingLemmas.{session_named, numbers_there, told_there, refused_there, grown_there_too}
use Rattle.session_commands.proofs.assumptions.assume.Goals as goal

pub assume_numbered-requires-clause-session : goal.assume_numbered-requires-clause-session
assume_numbered-requires-clause-session c =
    session_named c.args.state.now c.number_all.new.names (formulas_of (map formula_tree c.args.given.now)) c.requires.session c.number_all.ensures.grown c.in_ok-number_all.ensures.numbered c.requires.proper

pub assume_numbered-requires-clause-numbered : goal.assume_numbered-requires-clause-numbered
assume_numbered-requires-clause-numbered c =
    numbers_there c.args.state.now c.number_all.new.names (formulas_of (map formula_tree c.args.given.now)) c.requires.session c.number_all.ensures.grown c.in_ok-number_all.ensures.numbered c.requires.proper

pub returns-clause-answer : goal.returns-clause-answer
returns-clause-answer c =
    told_there c.args.state.now c.number_all.new.names (formulas_of (map formula_tree c.args.given.now)) c.requires.session c.number_all.ensures.grown c.in_ok-number_all.ensures.numbered c.requires.proper
    c.assume_numbered.result c.args.printed c.assume_numbered.new.state c.assume_numbered.ensures.answer

pub returns-clause-refused : goal.returns-clause-refused
returns-clause-refused c =
    refused_there c.args.state.now c.number_all.new.names (formulas_of (map formula_tree c.args.given.now)) c.requires.session c.number_all.ensures.grown c.in_ok-number_all.ensures.numbered c.requires.proper
    c.assume_numbered.result c.args.printed c.assume_numbered.ensures.refused

pub returns-clause-grown : goal.returns-clause-grown
returns-clause-grown c =
    grown_there_too c.args.state.now c.number_all.new.names (formulas_of (map formula_tree c.args.given.now)) c.requires.session c.number_all.ensures.grown c.in_ok-number_all.ensures.numbered c.requires.proper
    c.assume_numbered.result c.assume_numbered.new.state c.assume_numbered.ensures.kept
