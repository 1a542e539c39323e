use Rattle.std.proofs.Common.{rules, ◌≡◌, map, length, sym, ◌∙◌, FitsSigned, eqb-true}
use Rattle.std.specs.Int.{w128}
use Rattle.std.proofs.lemmas.Int.{to_z-of_z}
use Rattle.logic_meaning.specs.Farkas.{AreAllowed}
use Rattle.certificates.specs.Constraints.{constraint_of}
use Rattle.certificates.proofs.Deciding.{not_farkas, farkas_if}
use Rattle.certificates.proofs.checking.check.Goals as goal
use Rattle.certificates.proofs.checking.check.Goals.{then-places-eq0, else-places-eq0}

pub returns-clause-decides : goal.returns-clause-decides
returns-clause-decides c =
    let cs = map constraint_of c.args.constraints.now in
    let ms = c.args.multipliers.now in
    let s = c.in_ok-sum.sum in
    let a : AreAllowed cs ms = search rules in
    let n : c.places.result ≡ length s.terms = c.places.ensures in
    elim c.if-places-eq0.branch [
      | then-places-eq0 w ↦
          let f : FitsSigned w128 w.constant_part.result = search rules in
          let i = simp to_z-of_z at w.is_impossible.ensures in
          rw w.result-is (farkas_if cs ms s c.in_ok-sum.ensures.sum a (sym n ∙ w.if-places-eq0.true) w.constant_part.result w.constant_part.ensures.value w.is_impossible.result i)
      | else-places-eq0 w ↦ (
        λ t. absurd (w.if-places-eq0.false (eqb-true c.places.result 0 (sym w.result-is ∙ t))),
        λ k. absurd (not_farkas cs ms s c.in_ok-sum.ensures.sum (λ e. w.if-places-eq0.false (n ∙ e)) k),
      )
    ]
