use Rattle.std.proofs.lemmas.Int.{to_z-of_z}
use Rattle.std.proofs.lemmas.Result.{IfOk-weaker}
use Rattle.exact_numbers.proofs.Casts.{fits}
use Rattle.integer_shadows.proofs.Making.{some_map, is_without}
use Rattle.integer_shadows.proofs.forms.without.Goals as goal

pub returns-in-Ok : goal.returns-in-Ok
returns-in-Ok c =
    let k = c.coefficient.result in
    let fk = fits k c.coefficient.ensures.within in
    let fm = fits c.negative-multiple.result c.negative-multiple.ensures.within in
    let e = simp to_z-of_z at c.negative-multiple.ensures.value in
    let h = rw e at (simp to_z-of_z at c.combination.ensures) in
    IfOk-weaker _ _ _ (λ o. some_map o (λ r. is_without c.args.name.number c.args.form.now c.in-Ok.variable r k c.coefficient.ensures.value c.in-Ok.ensures.form)) h
