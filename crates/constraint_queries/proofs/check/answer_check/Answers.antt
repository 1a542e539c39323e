use Rattle.std.proofs.Common.{◌≡◌, None, map, sym, subst, rules, Err}
use Rattle.std.specs.Prelude.{IfOk, IfErr, Result}
use Rattle.normal_atoms.proofs.Stepped.{ok_map}
use Rattle.language_meaning.specs.Trees.{formulas_of}
use Rattle.written_syntax.specs.CodeTrees.{formula_tree}
use Rattle.language_meaning.specs.Statements.{Check}
use Rattle.program_meaning.specs.declared.line.Line.{Line}
use Rattle.program_meaning.specs.declared.line.StatementError.{StatementError}
use Rattle.program_meaning.specs.Reply.{IsLine}
use Rattle.program_meaning.specs.Words.{truth_text}
use Rattle.session_state.specs.Keeping.{state_of}
use Rattle.form_commands.specs.Replies.{use_of, Refuses}
use Rattle.constraint_queries.proofs.AnswerSteps.{truth_told}
use Rattle.constraint_queries.proofs.NameSteps.{named_session, named_state, session_named, numbers_there, refused_there, told_there, session_later, state_later}
use Rattle.constraint_queries.proofs.check.answer_check.Goals as goal

pub proves-requires-clause-session : goal.proves-requires-clause-session
proves-requires-clause-session c =
    session_named c.args.state.now c.number_all.new.names (formulas_of (map formula_tree c.args.written.now)) c.requires.session c.number_all.ensures.grown c.in_ok-number_all.ensures.numbered c.requires.proper

pub proves-requires-clause-numbered : goal.proves-requires-clause-numbered
proves-requires-clause-numbered c =
    numbers_there c.args.state.now c.number_all.new.names (formulas_of (map formula_tree c.args.written.now)) c.requires.session c.number_all.ensures.grown c.in_ok-number_all.ensures.numbered c.requires.proper

pub returns-in_err-proves-clause-refused : goal.returns-in_err-proves-clause-refused
returns-in_err-proves-clause-refused c =
    let state = c.args.state.now in
    let names = c.number_all.new.names in
    let written = formulas_of (map formula_tree c.args.written.now) in
    let grown = c.number_all.ensures.grown in
    let is = c.in_ok-number_all.ensures.numbered in
    let command = Check written c.args.multipliers.now in
    let e : c.from_residual-in_err-proves.result ≡ Err c.in_err-proves.field-0.0 = search rules in
    let stop : Result Line StatementError = Err c.in_err-proves.field-0.0 in
    subst (λ r. IfErr r (Refuses (named_state state names written c.requires.session grown is c.requires.proper) c.args.limit (use_of None c.args.printed) command)) (sym e)
    (refused_there state names written c.requires.session grown is c.requires.proper command c.args.limit c.args.printed stop (c.in_err-proves.ensures.refused c.args.limit c.args.printed))

pub returns-clause-session : goal.returns-clause-session
returns-clause-session c =
    session_later c.args.state.now c.number_all.new.names (formulas_of (map formula_tree c.args.written.now)) c.requires.session c.number_all.ensures.grown c.in_ok-number_all.ensures.numbered c.requires.proper
    c.proves.new.state c.proves.ensures.kept c.printed_line.result

pub returns-clause-answer : goal.returns-clause-answer
returns-clause-answer c =
    let state = c.args.state.now in
    let names = c.number_all.new.names in
    let written = formulas_of (map formula_tree c.args.written.now) in
    let grown = c.number_all.ensures.grown in
    let is = c.in_ok-number_all.ensures.numbered in
    let ms = c.args.multipliers.now in
    let there = state_of (named_session state names written c.requires.session grown is c.requires.proper) in
    let line : IfOk c.printed_line.result (IsLine c.args.printed (truth_text c.in_ok-proves.proves)) = subst (λ text. IfOk c.printed_line.result (IsLine c.args.printed text)) c.text_of_truth.ensures c.printed_line.ensures.line in
    told_there state names written c.requires.session grown is c.requires.proper (Check written ms) c.args.limit c.args.printed c.printed_line.result c.proves.new.state.names
    (ok_map c.printed_line.result (λ l i. truth_told there c.args.limit c.args.printed written ms c.in_ok-proves.proves c.proves.new.state.names l c.in_ok-proves.ensures.accepted c.in_ok-proves.ensures.answer i) line)

pub returns-clause-next : goal.returns-clause-next
returns-clause-next c =
    state_later c.args.state.now c.number_all.new.names (formulas_of (map formula_tree c.args.written.now)) c.requires.session c.number_all.ensures.grown c.in_ok-number_all.ensures.numbered c.requires.proper
    c.proves.new.state c.proves.ensures.kept c.printed_line.result
