use Rattle.std.proofs.Common.{FitsSigned, rules}
use Rattle.std.specs.Int.{w128}
use Rattle.std.proofs.lemmas.Int.{to_z-of_z}
use Rattle.linear_forms.proofs.Peeling.{peel_pair, peel_later, peel_empty}
use Rattle.linear_forms.proofs.merge.peel.Goals as goal
use Rattle.linear_forms.proofs.merge.peel.Goals.{in_default-via-in-Some+else-first-name, in_default-via-in_default}

pub returns-in-Some-clause-peeled : goal.returns-in-Some-clause-peeled
returns-in-Some-clause-peeled c =
    let p = c.in-Some.first.now in
    let f : FitsSigned w128 p.1 = search rules in
    simp to_z-of_z (peel_pair c.args.terms.now p c.in-Some.rest.now c.args.name.number c.in-Some.ensures.cases.0 c.if-first-name.true c.requires.rising)

pub returns-in_default-clause-peeled : goal.returns-in_default-clause-peeled
returns-in_default-clause-peeled c =
    elim c.in_default.branch [
      | in_default-via-in-Some+else-first-name w ↦ peel_later c.args.terms.now w.in-Some.first.now w.in-Some.rest.now c.args.name.number w.in-Some.ensures.cases.0 w.if-first-name.false c.requires.first c.requires.rising
      | in_default-via-in_default w ↦ peel_empty c.args.terms.now c.args.name.number w.in_default.ensures.cases
    ]
