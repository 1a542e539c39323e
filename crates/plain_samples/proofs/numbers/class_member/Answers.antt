use Rattle.std.proofs.Common.{◌≡◌, pos, ◌-ℤ◌, ◌+ℤ◌, FitsSigned, arith, ap, ◌∙◌}
use Rattle.std.specs.Int.{w128}
use Rattle.std.proofs.lemmas.Int.{ints, to_z-of_z}
use Rattle.exact_numbers.specs.Limit.{checked}
use Rattle.exact_numbers.specs.Divides.{residue_of}
use Rattle.exact_numbers.proofs.Casts.{fits}
use Rattle.exact_numbers.proofs.Floor.{residue_not_negative, residue_below}
use Rattle.plain_samples.proofs.Classes.{residue_apart}
use Rattle.plain_samples.proofs.numbers.class_member.Goals as goal

pub overflow_sub-apart : goal.overflow_sub-apart
overflow_sub-apart c = let w = c.residue-apart.ensures.within in omega (arith, ints)

pub returns : goal.returns
returns c =
    let m = c.args.most in let j = c.args.member in let q = c.args.modulus in
    let fm = c.ranges.most in let fj = c.ranges.member in let fq = c.ranges.modulus in
    let a = c.residue.result in let b = c.residue-2.result in let r = c.residue-apart.result in
    let fa = fits a c.residue.ensures.within in let fb = fits b c.residue-2.ensures.within in
    let wr = c.residue-apart.ensures.within in
    let am : a ≡ residue_of m q = simp to_z-of_z at c.residue.ensures.value in
    let bj : b ≡ residue_of j q = simp to_z-of_z at c.residue-2.ensures.value in
    let an = residue_not_negative m q in let al = residue_below m q c.requires in
    let bn = residue_not_negative j q in let bl = residue_below j q c.requires in
    let fd : FitsSigned w128 (a -ℤ b) = omega (arith, ints, am, bj, an, al, bn, bl, fq) in
    let rd : r ≡ residue_of (a -ℤ b) q = simp to_z-of_z at c.residue-apart.ensures.value in
    let rm : r ≡ residue_of (m -ℤ j) q = rd ∙ ap (λ z. residue_of (z -ℤ b) q) am ∙ ap (λ z. residue_of (residue_of m q -ℤ z) q) bj ∙ residue_apart m j q c.requires in
    let fr = fits r wr in
    let fn : FitsSigned w128 (pos 0 -ℤ r) = omega (arith, ints) in
    let total : m +ℤ (pos 0 -ℤ r) ≡ m -ℤ residue_of (m -ℤ j) q = omega (arith, ints, rm) in
    let s : c.sum.result ≡ checked (m +ℤ (pos 0 -ℤ r)) = simp to_z-of_z at c.sum.ensures.rule in
    s ∙ ap checked total
