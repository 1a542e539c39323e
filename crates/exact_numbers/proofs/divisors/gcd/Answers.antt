use Rattle.std.proofs.Common.{◌≡◌, pos, subst, sym, to_z, ℤ, arith}
use Rattle.std.specs.Int.{w128}
use Rattle.std.proofs.lemmas.Int.{ints, to_z-of_z}
use Rattle.std.proofs.lemmas.Nat.{mod_below}
use Rattle.std.proofs.lemmas.Nat.Gcd.{IsGcd-from_mod, IsGcd-from_zero}
use Rattle.exact_numbers.specs.Divides.{IsGcd}
use Rattle.exact_numbers.proofs.GreatestDivisor.{gcd_from_abs, gcd_of_is}
use Rattle.exact_numbers.proofs.divisors.gcd.Goals as goal

pub loop-right-init : goal.loop-right-init
loop-right-init c =
    let l = c.unsigned_abs-left.ensures.value in
    let r = c.unsigned_abs-right.ensures.value in
    record { left_within = omega (arith, ints, l); right_within = omega (arith, ints, r); keeps = λ g h. rw (← l, ← r) h }

pub loop-right-preserved : goal.loop-right-preserved
loop-right-preserved c =
    let i = c.loop-right.invariant in
    let m = mod_below c.loop-right.left c.loop-right.right (omega arith) in
    record { left_within = i.right_within; right_within = omega (arith, m, i.right_within); keeps = λ g h. i.keeps g (IsGcd-from_mod c.loop-right.left c.loop-right.right g h) }

pub returns : goal.returns
returns c =
    let n = c.loop-right.left in
    let z : c.loop-right.right ≡ 0 = omega arith in
    let w = c.loop-right.invariant.left_within in
    let v : to_z w128 n ≡ pos n = omega (arith, ints) in
    let fa = c.ranges.a in let fb = c.ranges.b in
    let k = simp to_z-of_z at (c.loop-right.invariant.keeps n (IsGcd-from_zero n c.loop-right.right z)) in
    let g = gcd_from_abs c.args.a c.args.b n k in
    record {
      greatest = subst (λ (q : ℤ). IsGcd c.args.a c.args.b q) (sym v) g;
      value = gcd_of_is (subst (λ (q : ℤ). IsGcd c.args.a c.args.b q) (sym v) g);
      within = omega (arith, ints);
    }
