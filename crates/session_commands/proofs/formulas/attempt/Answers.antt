use Rattle.std.proofs.Common.{◌≡◌, inr, Err, sym, subst, rules}
use Rattle.std.specs.Prelude.{IfErr, OnErr}
use Rattle.session_state.specs.Keeping.{state_of}
use Rattle.session_state.specs.Growth.{GrowsState}
use Rattle.session_state.specs.Scripted.{answered_tree}
use Rattle.form_commands.specs.Replies.{use_of}
use Rattle.session_commands.specs.Steps.{AttemptRefuses, KeepsWhereEliminated}
use Rattle.session_commands.proofs.GivenLemmas.{fits_other}
use Rattle.session_commands.proofs.GivenSteps.{later_within, later_members, answered_session, given_answer, given_refused, on_err}
use Rattle.session_commands.proofs.formulas.attempt.Goals as goal

pub returns-in_err-id-clause-refused : goal.returns-in_err-id-clause-refused
returns-in_err-id-clause-refused g c =
    let f = answered_tree c.args.formula.now in
    let d = c.args.state.now in
    let w = c.args.wanted in
    let u = use_of c.args.target.now c.args.printed in
    let e : c.from_residual.result ≡ Err c.in_err-id.field-0.0 = search rules in
    subst (λ r. IfErr r (AttemptRefuses (state_of d) c.args.workshop.now.limits.nodes u w f)) (sym e)
    (λ ask. inr (fits_other w (state_of d).bound c.args.target.now c.in_err-id.field-0.0 c.in_err-id.ensures.other, c.in_err-id.ensures.refused c.args.target.now c.args.printed ask))

pub returns-in_err-id-clause-grown : goal.returns-in_err-id-clause-grown
returns-in_err-id-clause-grown g c =
    let e : c.from_residual.result ≡ Err c.in_err-id.field-0.0 = search rules in
    subst (λ r. OnErr r (GrowsState c.args.state.now c.wanted_formula.new.state)) (sym e) c.wanted_formula.ensures.grown

pub returns-in_err-id-clause-kept : goal.returns-in_err-id-clause-kept
returns-in_err-id-clause-kept g c =
    let e : c.from_residual.result ≡ Err c.in_err-id.field-0.0 = search rules in
    subst (λ r. OnErr r (KeepsWhereEliminated c.args.wanted c.args.state.now c.wanted_formula.new.state)) (sym e) c.wanted_formula.ensures.kept

pub give-requires-clause-within : goal.give-requires-clause-within
give-requires-clause-within g c =
    let f = answered_tree c.args.formula.now in
    let d = c.args.state.now in
    let w = c.args.wanted in
    let later = c.wanted_formula.new.state in
    let id = c.in_ok-id.id in
    later_within w f d c.requires.numbered c.requires.session c.requires.answers.scripted c.args.workshop.now.limits.nodes later c.wanted_formula.ensures.grown id c.in_ok-id.ensures.made c.in_ok-id.ensures.wanted

pub give-requires-clause-members : goal.give-requires-clause-members
give-requires-clause-members g c =
    let f = answered_tree c.args.formula.now in
    let d = c.args.state.now in
    let w = c.args.wanted in
    let later = c.wanted_formula.new.state in
    let id = c.in_ok-id.id in
    later_members w f d c.requires.numbered c.requires.session c.requires.answers.scripted c.args.workshop.now.limits.nodes later c.wanted_formula.ensures.grown id c.in_ok-id.ensures.made c.in_ok-id.ensures.wanted

pub returns-clause-session : goal.returns-clause-session
returns-clause-session g c =
    let f = answered_tree c.args.formula.now in
    let d = c.args.state.now in
    let w = c.args.wanted in
    let later = c.wanted_formula.new.state in
    let id = c.in_ok-id.id in
    answered_session w f d c.requires.numbered c.requires.session c.requires.answers.scripted c.args.workshop.now.limits.nodes later c.wanted_formula.ensures.grown id c.in_ok-id.ensures.made c.in_ok-id.ensures.wanted c.args.target.now c.args.printed c.give.result c.give.new.state c.give.ensures.bound

pub returns-clause-answer : goal.returns-clause-answer
returns-clause-answer g c =
    let f = answered_tree c.args.formula.now in
    let d = c.args.state.now in
    let w = c.args.wanted in
    let later = c.wanted_formula.new.state in
    let id = c.in_ok-id.id in
    given_answer w f d c.requires.numbered c.requires.session c.requires.answers.scripted c.args.workshop.now.limits.nodes later c.wanted_formula.ensures.grown id c.in_ok-id.ensures.made c.in_ok-id.ensures.wanted
    c.args.target.now c.args.printed c.give.result c.give.new.state c.give.ensures.bound c.give.ensures.line

pub returns-clause-refused : goal.returns-clause-refused
returns-clause-refused g c =
    let f = answered_tree c.args.formula.now in
    let d = c.args.state.now in
    let w = c.args.wanted in
    let later = c.wanted_formula.new.state in
    let id = c.in_ok-id.id in
    given_refused w f d c.requires.numbered c.requires.session c.requires.answers.scripted c.args.workshop.now.limits.nodes later c.wanted_formula.ensures.grown id c.in_ok-id.ensures.made c.in_ok-id.ensures.wanted
    c.args.target.now c.args.printed c.give.result c.give.new.state c.give.ensures.fault c.give.ensures.few

pub returns-clause-grown : goal.returns-clause-grown
returns-clause-grown g c = on_err c.give.result (λ p. subst (GrowsState c.args.state.now) (sym p) c.wanted_formula.ensures.grown) c.give.ensures.unchanged

pub returns-clause-kept : goal.returns-clause-kept
returns-clause-kept g c = on_err c.give.result (λ p. subst (KeepsWhereEliminated c.args.wanted c.args.state.now) (sym p) c.wanted_formula.ensures.kept) c.give.ensures.unchanged
