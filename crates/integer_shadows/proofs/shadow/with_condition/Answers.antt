use Rattle.std.proofs.lemmas.Int.{to_z-of_z}
use Rattle.std.proofs.lemmas.Result.{IfOk-weaker}
use Rattle.integer_shadows.proofs.Making.{some_at}
use Rattle.integer_shadows.proofs.Casting.{conditioned}
use Rattle.integer_shadows.proofs.shadow.with_condition.Goals as goal

pub returns-in-Some : goal.returns-in-Some
returns-in-Some c =
    let fd = c.ranges.divisor in
    let w = some_at _ c.in-Some.is c.in_ok-form.ensures in
    IfOk-weaker _ _ _ (λ s h. conditioned c.args.name.number c.args.divisor c.args.class.now c.in-Some.form c.args.shadow s c.requires w h) (simp to_z-of_z at c.with.ensures)
