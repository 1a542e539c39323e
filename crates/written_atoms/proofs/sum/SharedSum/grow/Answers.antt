use Rattle.std.proofs.Common.{◌≡◌, subst}
use Rattle.std.proofs.Math.IntN.{ℤ}
use Rattle.std.specs.Prelude.{int_div}
use Rattle.std.proofs.lemmas.Int.{to_z-of_z}
use Rattle.exact_numbers.proofs.Casts.{fits}
use Rattle.written_atoms.specs.Sum.{IsMultiple}
use Rattle.written_atoms.proofs.SharedSums.{grown_stays}
use Rattle.written_atoms.proofs.sum.SharedSum.grow.Goals as goal

pub returns : goal.returns
returns c =
    let s = c.args.self.now in
    let d = c.args.denominator in
    let fs = fits s.denominator s.within in
    let fd = c.ranges.denominator in
    let k = c.quotient-factor.result in
    let fk = fits k c.quotient-factor.ensures.within in
    let e : k ≡ int_div d s.denominator = simp to_z-of_z at c.quotient-factor.ensures.value in
    let m = simp to_z-of_z at (c.in_ok-numerators.ensures c.in-Some.numerators c.in-Some.is) in
    (grown_stays s _ d c.requires.positive c.requires.multiple (subst (λ (z : ℤ). IsMultiple z s.numerators c.in-Some.numerators) e m) (simp to_z-of_z), λ _. simp to_z-of_z)
