use Rattle.std.proofs.Common.{◌≡◌, sym, ◌∙◌, ap, subst, ℤ, to_z, of_z}
use Rattle.std.specs.Int.{w128}
use Rattle.std.proofs.lemmas.Int.{to_z-of_z}
use Rattle.exact_numbers.specs.Limit.{InLimit}
use Rattle.exact_numbers.specs.Divides.{gcd_of, content_of}
use Rattle.exact_numbers.proofs.Casts.{fits}
use Rattle.logic_meaning.specs.Terms.{coefficients}
use Rattle.normal_atoms.proofs.Congruences.{IsCommonDivisor, modulus_divisor}
use Rattle.normal_atoms.proofs.congruence.common_divisor.Goals as goal

pub returns : goal.returns
unfolding content_of
returns c =
    let m = c.args.modulus in let f = c.args.form.now in
    let fm = c.ranges.modulus in
    let fc = fits c.content.result c.content.ensures.within in
    let fg = fits c.gcd.result c.gcd.ensures.within in
    let e : c.gcd.result ≡ gcd_of m (content_of (coefficients f.terms)) = simp to_z-of_z at c.gcd.ensures.value ∙ ap (gcd_of m) c.content.ensures.value in
    let r : to_z w128 (of_z w128 c.gcd.result) ≡ gcd_of m (content_of (coefficients f.terms)) = to_z-of_z w128 c.gcd.result fg ∙ e in
    let d = subst (λ (g : ℤ). IsCommonDivisor g m f) (sym r) (modulus_divisor m f c.requires) in
    record { value = r; positive = d.positive; modulus = d.modulus; terms = d.terms; within = subst (λ (z : ℤ). InLimit z) (sym (to_z-of_z w128 c.gcd.result fg)) c.gcd.ensures.within }
