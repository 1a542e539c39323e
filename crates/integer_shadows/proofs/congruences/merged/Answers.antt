use Rattle.std.proofs.Common.{◌<◌, sym, subst, arith, of_z}
use Rattle.std.proofs.Math.IntN.{ℤ, pos, negsuc}
use Rattle.std.specs.Prelude.{◌<ℤ◌, int_div}
use Rattle.std.specs.Int.{w128}
use Rattle.std.proofs.lemmas.Int.{ints, to_z-of_z, quot_fits}
use Rattle.std.proofs.lemmas.Result.{IfOk-weaker}
use Rattle.exact_numbers.specs.Limit.{InLimit}
use Rattle.exact_numbers.proofs.Casts.{fits}
use Rattle.exact_numbers.proofs.Limits.{checked_some}
use Rattle.integer_shadows.proofs.Making.{some_at, some_map}
use Rattle.integer_shadows.proofs.Euclid.{raised_to, factor_is, reduction_positive, merged_of}
use Rattle.integer_shadows.proofs.congruences.merged.Goals as goal

bits_positive : (z : ℤ) → pos 0 <ℤ z → 0 < of_z w128 z
bits_positive (pos n) h = omega (arith, ints)
bits_positive (negsuc n) h = absurd (omega (arith, ints))

pub nonzero_div-common-2 : goal.nonzero_div-common-2
nonzero_div-common-2 c =
    let n = c.args.other_modulus in
    let fm = c.ranges.modulus in let fn = c.ranges.other_modulus in
    let k = c.in-Some.common in
    let r = simp to_z-of_z at c.in-Some.ensures.rule in
    let v = simp to_z-of_z at c.in-Some.ensures.value in
    let within : InLimit k = subst (λ z. InLimit z) (sym v.0) (checked_some _ k (sym r)).1 in
    let fk = fits k within in
    (bits_positive n c.requires.other_modulus.0, simp to_z-of_z (quot_fits w128 k n fk c.requires.other_modulus.0))

pub parted-requires-clause-modulus : goal.parted-requires-clause-modulus
parted-requires-clause-modulus c =
    let fm = c.ranges.modulus in let fn = c.ranges.other_modulus in
    let k = c.in-Some.common in
    let r = simp to_z-of_z at c.in-Some.ensures.rule in
    let v = simp to_z-of_z at c.in-Some.ensures.value in
    let within : InLimit k = subst (λ z. InLimit z) (sym v.0) (checked_some _ k (sym r)).1 in
    let fk = fits k within in
    simp to_z-of_z (v.1.positive, within)

pub parted-requires-clause-class : goal.parted-requires-clause-class
parted-requires-clause-class c = reduction_positive _ _ _ _ _ _ c.args.name.number (some_at _ c.in-Some-2.is c.in_ok-class.ensures)

pub parted-requires-clause-rest : goal.parted-requires-clause-rest
parted-requires-clause-rest c = reduction_positive _ _ _ _ _ _ c.args.name.number (some_at _ c.in-Some-3.is c.in_ok-rest.ensures)

pub returns : goal.returns
returns c =
    let x = c.args.name.number in
    let m = c.args.modulus in let n = c.args.other_modulus in
    let fm = c.ranges.modulus in let fn = c.ranges.other_modulus in
    let k = c.in-Some.common in
    let r = simp to_z-of_z at c.in-Some.ensures.rule in
    let v = simp to_z-of_z at c.in-Some.ensures.value in
    let within : InLimit k = subst (λ z. InLimit z) (sym v.0) (checked_some _ k (sym r)).1 in
    let fk = fits k within in
    let fa = quot_fits w128 k m fk c.requires.modulus.0 in
    let fb = quot_fits w128 k n fk c.requires.other_modulus.0 in
    let first = some_at _ c.in-Some-2.is (simp to_z-of_z at c.in_ok-class.ensures) in
    let second = some_at _ c.in-Some-3.is (simp to_z-of_z at c.in_ok-rest.ensures) in
    let hk = v.1.positive in
    let a = raised_to m k (int_div k m) c.args.class.now c.in-Some-2.class hk (factor_is m k c.requires.modulus.0 v.1.left) first in
    let b = raised_to n k (int_div k n) c.args.other.now c.in-Some-3.rest hk (factor_is n k c.requires.other_modulus.0 v.1.right) second in
    IfOk-weaker _ _ _ (λ o. some_map o (λ s. merged_of x m n k c.args.class.now c.args.other.now c.in-Some-2.class c.in-Some-3.rest s a b)) (simp to_z-of_z at c.parted.ensures)
