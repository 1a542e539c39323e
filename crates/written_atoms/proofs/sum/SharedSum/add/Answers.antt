use Rattle.std.proofs.Common.{◌≡◌, ℤ, refl, sym, ◌∙◌, ap, subst}
use Rattle.std.specs.Prelude.{int_div}
use Rattle.std.proofs.lemmas.Int.{to_z-of_z}
use Rattle.exact_numbers.specs.Divides.{Divides, lcm_of}
use Rattle.exact_numbers.specs.Division.{IsLcm}
use Rattle.exact_numbers.proofs.Casts.{fits}
use Rattle.exact_numbers.proofs.Limits.{formed_by}
use Rattle.written_atoms.specs.Sum.{AddsWithin, IsAdded}
use Rattle.written_atoms.proofs.SharedSums.{part_added, after_growing}
use Rattle.written_atoms.proofs.sum.SharedSum.add.Goals as goal

pub returns : goal.returns
returns c =
    let s = c.args.self.now in
    let t = c.grow.new.self in
    let part = c.args.part.now in
    let m = c.in-Some.multiple in
    let k = c.quotient-factor.result in
    let fs = fits s.denominator s.within in
    let fp = fits part.denominator part.within in
    let formed = formed_by (lcm_of s.denominator part.denominator) m (simp to_z-of_z at c.in-Some.ensures.rule) in
    let fm = fits m formed.within in
    let fk = fits k c.quotient-factor.ensures.within in
    let same : t.denominator ≡ m = simp to_z-of_z at (c.in_ok-grow.ensures.1 c.if-not-branch.false) in
    let l : IsLcm s.denominator part.denominator m = simp to_z-of_z at c.in-Some.ensures.value.1 in
    let e : k ≡ int_div m part.denominator = simp to_z-of_z at c.quotient-factor.ensures.value in
    let q : k ≡ int_div t.denominator part.denominator = e ∙ ap (λ z. int_div z part.denominator) (sym same) in
    let w : AddsWithin t.numerators k part.form = simp to_z-of_z at (c.if-not-may_take.ensures.within refl) in
    let a : IsAdded t.numerators k part.form c.add.new.self = simp to_z-of_z at c.in_ok-add.ensures in
    after_growing s t _ part c.in_ok-grow.ensures.0 (part_added t _ part (subst (Divides part.denominator) (sym same) l.right) c.may_take.ensures.linear
    (subst (λ (z : ℤ). AddsWithin t.numerators z part.form) q w) refl (subst (λ (z : ℤ). IsAdded t.numerators z part.form c.add.new.self) q a))
