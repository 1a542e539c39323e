use Rattle.std.proofs.lemmas.Int.{to_z-of_z}
use Rattle.integer_shadows.proofs.Making.{some_at, is_reduction}
use Rattle.integer_shadows.proofs.forms.reduction.Goals as goal

pub returns-in_ok-form-in-Some : goal.returns-in_ok-form-in-Some
returns-in_ok-form-in-Some c =
    let fa = c.ranges.a in let fb = c.ranges.b in let fm = c.ranges.modulus in
    let h = some_at _ c.in-Some.is (simp to_z-of_z at c.in_ok-form.ensures) in
    let e = simp to_z-of_z at c.in_ok-form-in-Some.ensures.value in
    is_reduction c.args.a c.args.b c.args.modulus c.args.form.now c.args.other.now c.in-Some.form _ c.requires h e c.in_ok-form-in-Some.ensures.linear
