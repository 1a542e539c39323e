use Rattle.std.proofs.Common.{◌≡◌, true, false, ap, sym, ◌∙◌, arith, ℕ, ◌/◌, ◌+◌}
use Rattle.std.proofs.Math.IntN.{pos}
use Rattle.std.specs.Prelude.{int_lt, unsigned_abs, ◌<ℤ◌, ◌≤ℤ◌}
use Rattle.std.proofs.lemmas.Int.{ints, to_z-of_z}
use Rattle.point_grid.proofs.Counting.{count_below, count_above}
use Rattle.point_grid.proofs.scale.count.Goals as goal

pub returns-then-span-lt0 : goal.returns-then-span-lt0
returns-then-span-lt0 c =
    let f = c.ranges.span in
    let t : int_lt c.args.span (pos 0) ≡ true = simp to_z-of_z at c.if-span-lt0.true in
    let b : c.args.span <ℤ pos 0 = grind (arith, ints, t) in
    sym (count_below c.args.span c.args.step b)

pub returns-else-span-lt0 : goal.returns-else-span-lt0
returns-else-span-lt0 c =
    let f = c.ranges.span in
    let t : int_lt c.args.span (pos 0) ≡ false = simp to_z-of_z at c.if-span-lt0.false in
    let b : pos 0 ≤ℤ c.args.span = grind (arith, ints, t) in
    let e : c.unsigned_abs.result ≡ unsigned_abs c.args.span = simp to_z-of_z at c.unsigned_abs.ensures.value in
    ap (λ (n : ℕ). n / c.args.step + 1) e ∙ sym (count_above c.args.span c.args.step b)
