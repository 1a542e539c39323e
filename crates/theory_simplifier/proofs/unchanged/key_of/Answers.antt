use Rattle.std.proofs.Common.{◌≡◌, ◌+◌, ℕ, List, drop, sym, ◌∙◌, subst, arith}
use Rattle.logic_meaning.specs.Form.{Term}
use Rattle.theory_simplifier.specs.Unchanged.{key_from}
use Rattle.theory_simplifier.proofs.Staying.{key_read, no_term}
use Rattle.theory_simplifier.proofs.unchanged.key_of.Goals as goal
use Rattle.theory_simplifier.proofs.unchanged.key_of.Goals.{in-Some, in_default}

pub loop-place-preserved : goal.loop-place-preserved
loop-place-preserved c =
    let ts : List Term = c.form_of-form.result.now.terms in
    elim c.match-term.branch [
      | in-Some w ↦ subst (λ (k : ℕ). key_from k (drop (c.loop-place.place + 1) ts) ≡ key_from 0 ts) (sym (w.key-is ∙ w.mixed-key.ensures))
          (key_read ts c.loop-place.place c.term.result _ c.loop-place.key (key_from 0 ts) w.in-Some.is c.term.ensures.value c.loop-place.invariant)
      | in_default w ↦ absurd (no_term c.term.result ts c.loop-place.place w.in_default.not-Some c.term.ensures.value (let e = c.places-place-end.ensures in let l = c.loop-place-test.true in omega arith))
    ]
