use Rattle.std.proofs.Common.{subst}
use Rattle.std.specs.Prelude.{IfOk, IfErr}
use Rattle.session_state.specs.Keeping.{state_of}
use Rattle.session_state.specs.Scripted.{answered_tree}
use Rattle.form_commands.specs.Replies.{use_of, Refuses, IsFormulaAnswer}
use Rattle.session_commands.specs.Steps.{command_of}
use Rattle.session_state.proofs.StateLemmas.{keeps_itself, grows_then_grows}
use Rattle.session_commands.proofs.GivenSteps.{names_are, with_numbers, numbered_state, numbers_there, numbered_session, on_err}
use Rattle.session_commands.proofs.formulas.answer_formula.Goals as goal

pub answer_numbered-requires-clause-session : goal.answer_numbered-requires-clause-session
answer_numbered-requires-clause-session g c _ _ =
    let f = answered_tree c.args.formula.now in
    let d = c.args.state.now in
    let w = c.args.wanted in
    let names = c.number_parts.new.names in
    let is = names_are w f d names _ c.in_ok-number_parts.ensures.numbered c.assumptions-assumptions.ensures in
    numbered_session w f d names is c.requires.session c.number_parts.ensures.grown c.requires.answers.scripted c.requires.given

pub answer_numbered-requires-clause-numbered : goal.answer_numbered-requires-clause-numbered
answer_numbered-requires-clause-numbered g c _ _ =
    let f = answered_tree c.args.formula.now in
    let d = c.args.state.now in
    let w = c.args.wanted in
    let names = c.number_parts.new.names in
    numbers_there w f d names (names_are w f d names _ c.in_ok-number_parts.ensures.numbered c.assumptions-assumptions.ensures)

pub returns-clause-answer : goal.returns-clause-answer
returns-clause-answer g c =
    let f = answered_tree c.args.formula.now in
    let d = c.args.state.now in
    let w = c.args.wanted in
    let names = c.number_parts.new.names in
    let is = names_are w f d names _ c.in_ok-number_parts.ensures.numbered c.assumptions-assumptions.ensures in
    subst (λ s. IfOk c.answer_numbered.result (λ answer. IsFormulaAnswer s c.args.workshop.now.limits.nodes (use_of c.args.target.now c.args.printed) (command_of w f) answer (state_of c.answer_numbered.new.state))) (numbered_state w f d names is)
    c.answer_numbered.ensures.answer

pub returns-clause-refused : goal.returns-clause-refused
returns-clause-refused g c =
    let f = answered_tree c.args.formula.now in
    let d = c.args.state.now in
    let w = c.args.wanted in
    let names = c.number_parts.new.names in
    let is = names_are w f d names _ c.in_ok-number_parts.ensures.numbered c.assumptions-assumptions.ensures in
    subst (λ s. IfErr c.answer_numbered.result (Refuses s c.args.workshop.now.limits.nodes (use_of c.args.target.now c.args.printed) (command_of w f))) (numbered_state w f d names is)
    c.answer_numbered.ensures.refused

pub returns-clause-grown : goal.returns-clause-grown
returns-clause-grown g c =
    let f = answered_tree c.args.formula.now in
    let d = c.args.state.now in
    let w = c.args.wanted in
    let names = c.number_parts.new.names in
    let is = names_are w f d names _ c.in_ok-number_parts.ensures.numbered c.assumptions-assumptions.ensures in
    on_err c.answer_numbered.result (grows_then_grows d (with_numbers w f d names is) c.answer_numbered.new.state (keeps_itself d names c.number_parts.ensures.grown)) c.answer_numbered.ensures.grown
