use Rattle.std.proofs.Common.{rules, ◌≡◌, ◌+◌, ℕ, List, drop, sym, ap, ap₂, ◌∙◌, subst, arith, FitsSigned}
use Rattle.std.proofs.Math.IntN.{ℤ}
use Rattle.std.specs.Int.{w128}
use Rattle.std.proofs.lemmas.Int.{to_z-of_z}
use Rattle.logic_meaning.specs.Form.{Term}
use Rattle.theory_simplifier.specs.VariableParts.{mixed, number_from, sign_of, magnitude}
use Rattle.theory_simplifier.proofs.Staying.{no_term}
use Rattle.theory_simplifier.proofs.PartNumbers.{number_read}
use Rattle.theory_simplifier.proofs.part.number_of.Goals as goal
use Rattle.theory_simplifier.proofs.part.number_of.Goals.{in-Some, in_default}

pub loop-place-preserved : goal.loop-place-preserved
loop-place-preserved c =
    let ts : List Term = c.args.form.now.terms in
    elim c.match-term.branch [
      | in-Some w ↦
          let k : ℤ = w.in-Some.coefficient in
          let fits : FitsSigned w128 k = search rules in
          let sign = w.sign_of.ensures ∙ ap sign_of (to_z-of_z w128 k fits) in
          let size = w.magnitude.ensures ∙ ap magnitude (to_z-of_z w128 k fits) in
          subst (λ (n : ℕ). number_from n (drop (c.loop-place.place + 1) ts) ≡ number_from c.args.start ts)
          (sym (w.number-is ∙ w.mixed-number-in-Some-2.ensures ∙ ap₂ mixed (w.mixed-number-in-Some.ensures ∙ ap₂ mixed w.mixed-number.ensures sign) size))
          (number_read ts c.loop-place.place c.term.result (w.in-Some.name, k) c.loop-place.number (number_from c.args.start ts) w.in-Some.is c.term.ensures.value c.loop-place.invariant)
      | in_default w ↦ absurd (no_term c.term.result ts c.loop-place.place w.in_default.not-Some c.term.ensures.value (let e = c.places-place-end.ensures in let l = c.loop-place-test.true in omega arith))
    ]
