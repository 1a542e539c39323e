use Rattle.std.proofs.Common.{◌≡◌, map, sym, ap, ◌∙◌, subst, rules, Err}
use Rattle.std.specs.Prelude.{IfErr}
use Rattle.language_meaning.specs.Trees.{formulas_of}
use Rattle.written_syntax.specs.CodeTrees.{formula_tree}
use Rattle.certificates.specs.Constraints.{constraint_of}
use Rattle.program_meaning.specs.Certificates.{constraints_of, multipliers_of}
use Rattle.session_state.specs.Keeping.{state_of}
use Rattle.constraint_queries.specs.Steps.{RefusesCheck}
use Rattle.constraint_queries.proofs.AnswerSteps.{check_answered, check_accepted, check_stopped, numbers_stopped}
use Rattle.constraint_queries.proofs.check.proves.Goals as goal

pub returns-in_err-constraints-clause-refused : goal.returns-in_err-constraints-clause-refused
returns-in_err-constraints-clause-refused c =
    let written = formulas_of (map formula_tree c.args.written.now) in
    let e : c.from_residual.result ≡ Err c.in_err-constraints.field-0.0 = search rules in
    subst (λ r. IfErr r (RefusesCheck (state_of c.args.state.now) written c.args.multipliers.now)) (sym e) (c.in_err-constraints.ensures.refused.check c.args.multipliers.now)

pub returns-in_err-numbers-clause-refused : goal.returns-in_err-numbers-clause-refused
returns-in_err-numbers-clause-refused c =
    let s = state_of c.args.state.now in
    let written = formulas_of (map formula_tree c.args.written.now) in
    let e : c.from_residual-in_err-numbers.result ≡ Err c.in_err-numbers.field-0.0 = search rules in
    subst (λ r. IfErr r (RefusesCheck s written c.args.multipliers.now)) (sym e)
    (numbers_stopped s written c.requires.numbered c.requires.constraints c.in_ok-constraints.ensures.ready c.args.multipliers.now c.in_err-numbers.field-0.0 c.in_err-numbers.ensures.stopped)

pub returns-in-Ok-clause-answer : goal.returns-in-Ok-clause-answer
returns-in-Ok-clause-answer c =
    let s = state_of c.args.state.now in
    let written = formulas_of (map formula_tree c.args.written.now) in
    let read : map constraint_of c.deref.result.now ≡ constraints_of s written = ap (map constraint_of) c.deref.ensures.value ∙ c.in_ok-constraints.ensures.constraints in
    let multiplied : c.deref-2.result.now ≡ multipliers_of c.args.multipliers.now = c.deref-2.ensures.value ∙ c.in_ok-numbers.ensures.numbers in
    check_answered s written c.requires.session.sound c.requires.numbered c.requires.constraints c.in_ok-constraints.ensures.ready c.args.multipliers.now (map constraint_of c.deref.result.now) c.deref-2.result.now
    read multiplied c.in-Ok.proves c.in-Ok.ensures.decides

pub returns-in-Ok-clause-accepted : goal.returns-in-Ok-clause-accepted
returns-in-Ok-clause-accepted c =
    let s = state_of c.args.state.now in
    let written = formulas_of (map formula_tree c.args.written.now) in
    let read : map constraint_of c.deref.result.now ≡ constraints_of s written = ap (map constraint_of) c.deref.ensures.value ∙ c.in_ok-constraints.ensures.constraints in
    let multiplied : c.deref-2.result.now ≡ multipliers_of c.args.multipliers.now = c.deref-2.ensures.value ∙ c.in_ok-numbers.ensures.numbers in
    check_accepted s written c.requires.session.sound c.requires.numbered c.requires.constraints c.in_ok-constraints.ensures.ready c.args.multipliers.now (map constraint_of c.deref.result.now) c.deref-2.result.now
    read multiplied c.in_ok-numbers.ensures.fits c.in-Ok.ensures.within

pub returns-clause-refused : goal.returns-clause-refused
returns-clause-refused c =
    let s = state_of c.args.state.now in
    let written = formulas_of (map formula_tree c.args.written.now) in
    let read : map constraint_of c.deref.result.now ≡ constraints_of s written = ap (map constraint_of) c.deref.ensures.value ∙ c.in_ok-constraints.ensures.constraints in
    let multiplied : c.deref-2.result.now ≡ multipliers_of c.args.multipliers.now = c.deref-2.ensures.value ∙ c.in_ok-numbers.ensures.numbers in
    subst (RefusesCheck s written c.args.multipliers.now) (sym c.refusal_of.ensures)
    (check_stopped s written c.requires.session.sound c.requires.numbered c.requires.constraints c.in_ok-constraints.ensures.ready c.args.multipliers.now (map constraint_of c.deref.result.now) c.deref-2.result.now
    read multiplied c.in-Err.error c.in-Err.ensures.stopped)
