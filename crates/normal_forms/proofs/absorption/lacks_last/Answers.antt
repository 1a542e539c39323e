use Rattle.std.proofs.Common.{◌≡◌, ◌-◌, ◌∙◌, sym, refl, Bool, true, false, length, get_or, arith}
use Rattle.std.specs.Prelude.{IsTrue, not}
use Rattle.formula_store.specs.declared.id.FormulaId.{FormulaId}
use Rattle.normal_forms.proofs.Absorbing.{here_among, within_not}
use Rattle.normal_forms.proofs.absorption.lacks_last.Goals as goal

not_true : (b : Bool) → IsTrue (not b) → b ≡ false
not_true false t = refl
not_true true t = absurd (cc (t))

pub returns-then-count-gt0 : goal.returns-then-count-gt0
returns-then-count-gt0 c t =
    let d : FormulaId = record { number = 0 } in
    let us = c.args.atoms.now in
    within_not us c.args.others.now (length us - 1) d (let h = c.if-count-gt0.true in omega arith)
    (here_among c.args.others.now (get_or us (length us - 1) d) false (sym (not_true c.contains.result t) ∙ c.contains.ensures.value))
