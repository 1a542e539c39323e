use Rattle.written_syntax.specs.CodeTrees.{inner_of, whole_command}
use Rattle.session_state.specs.Scripted.{answered_tree}
use Rattle.session_state.proofs.BesideLemmas.{scripted_beside}
use Rattle.session_commands.proofs.InnerForms.{asks_for, has_answers}
use Rattle.session_commands.proofs.InnerSteps.{inner_session, inner_own, inner_answered, inner_refused}
use Rattle.session_commands.proofs.inner.inner_formula.Goals as goal

pub wanted_formula-requires-clause-answers : goal.wanted_formula-requires-clause-answers
wanted_formula-requires-clause-answers g c _ _ =
    let d = c.args.state.now in
    let n = whole_command c.args.command.now in
    let asks = asks_for c.inner_form_of.result.0 c.inner_form_of.result.1.now d.names n c.inner_form_of.ensures.form c.requires.numbered in
    has_answers d c.inner_form_of.result.0 c.inner_form_of.result.1.now d.names n asks c.requires.places

pub wanted_formula-requires-clause-given : goal.wanted_formula-requires-clause-given
wanted_formula-requires-clause-given g c _ _ =
    (asks_for c.inner_form_of.result.0 c.inner_form_of.result.1.now c.args.state.now.names (whole_command c.args.command.now) c.inner_form_of.ensures.form c.requires.numbered).given

pub wanted_formula-requires-clause-numbered : goal.wanted_formula-requires-clause-numbered
wanted_formula-requires-clause-numbered g c _ _ =
    (asks_for c.inner_form_of.result.0 c.inner_form_of.result.1.now c.args.state.now.names (whole_command c.args.command.now) c.inner_form_of.ensures.form c.requires.numbered).numbered

pub returns-clause-session : goal.returns-clause-session
returns-clause-session g c =
    let d = c.args.state.now in
    let w = c.inner_form_of.result.0 in
    let f = c.inner_form_of.result.1.now in
    let n = whole_command c.args.command.now in
    let asks = asks_for w f d.names n c.inner_form_of.ensures.form c.requires.numbered in
    inner_session n w f d asks c.requires.session (scripted_beside (inner_of f) (answered_tree f) asks.written) c.args.workshop.now.limits.nodes c.wanted_formula.new.state c.wanted_formula.ensures.grown
    c.wanted_formula.result c.wanted_formula.ensures.made c.wanted_formula.ensures.wanted

pub returns-clause-own : goal.returns-clause-own
returns-clause-own g c =
    let d = c.args.state.now in
    let w = c.inner_form_of.result.0 in
    let f = c.inner_form_of.result.1.now in
    let n = whole_command c.args.command.now in
    let asks = asks_for w f d.names n c.inner_form_of.ensures.form c.requires.numbered in
    inner_own n w f d asks c.requires.session (scripted_beside (inner_of f) (answered_tree f) asks.written) c.args.workshop.now.limits.nodes c.wanted_formula.new.state c.wanted_formula.ensures.grown
    c.wanted_formula.result c.wanted_formula.ensures.made c.wanted_formula.ensures.wanted

pub returns-clause-answered : goal.returns-clause-answered
returns-clause-answered g c =
    let d = c.args.state.now in
    let w = c.inner_form_of.result.0 in
    let f = c.inner_form_of.result.1.now in
    let n = whole_command c.args.command.now in
    let asks = asks_for w f d.names n c.inner_form_of.ensures.form c.requires.numbered in
    inner_answered n w f d asks c.requires.session (scripted_beside (inner_of f) (answered_tree f) asks.written) c.args.workshop.now.limits.nodes c.wanted_formula.new.state c.wanted_formula.ensures.grown
    c.wanted_formula.result c.wanted_formula.ensures.made c.wanted_formula.ensures.wanted

pub returns-clause-refused : goal.returns-clause-refused
returns-clause-refused g c =
    let d = c.args.state.now in
    let w = c.inner_form_of.result.0 in
    let f = c.inner_form_of.result.1.now in
    let n = whole_command c.args.command.now in
    let asks = asks_for w f d.names n c.inner_form_of.ensures.form c.requires.numbered in
    inner_refused n w f d asks c.requires.session (scripted_beside (inner_of f) (answered_tree f) asks.written) c.args.workshop.now.limits.nodes c.wanted_formula.new.state c.wanted_formula.ensures.grown
    c.wanted_formula.result c.inner_form_of.ensures.first c.wanted_formula.ensures.refused
