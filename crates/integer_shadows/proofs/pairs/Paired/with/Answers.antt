use Rattle.std.proofs.lemmas.Int.{to_z-of_z}
use Rattle.integer_shadows.proofs.Making.{some_at}
use Rattle.integer_shadows.proofs.Gaps.{more_by_pair}
use Rattle.integer_shadows.proofs.pairs.Paired.with.Goals as goal

pub returns-in_ok-with_need-in-Some : goal.returns-in_ok-with_need-in-Some
returns-in_ok-with_need-in-Some c =
    let fs = c.ranges.step in
    let h = some_at _ c.in-Some.is (simp to_z-of_z at c.in_ok-gap.ensures) in
    more_by_pair c.args.name.number c.args.step c.args.lower.now c.args.upper.now c.in-Some.field-0 c.args.self
    (record { shadow = c.in_ok-with-in-Some.field-0; needs = c.in_ok-with_need-in-Some.field-0 }) h c.in_ok-with-in-Some.ensures c.in_ok-with_need-in-Some.ensures
