use Rattle.std.proofs.Common.{◌≡◌, ◌∷◌, pos, ℤ, ap, sym, ◌∙◌, subst}
use Rattle.std.specs.Int.{w128, cast_unsigned}
use Rattle.std.proofs.lemmas.Int.{to_z-of_z}
use Rattle.exact_numbers.specs.Divides.{gcd_of, content_of}
use Rattle.exact_numbers.specs.Division.{DividesAll}
use Rattle.exact_numbers.specs.Limit.{InLimit}
use Rattle.exact_numbers.proofs.Casts.{fits}
use Rattle.logic_meaning.specs.Terms.{coefficients}
use Rattle.logic_meaning.specs.Reduction.{quotient}
use Rattle.normal_atoms.specs.Atoms.{relation_of}
use Rattle.logic_meaning.specs.NormalForm.{turned}
use Rattle.normal_atoms.proofs.Stepped.{IsDivisor, field_divisor, field_atom}
use Rattle.normal_atoms.proofs.comparison.in_fields.Goals as goal

pub divided-requires-clause-nonzero : goal.divided-requires-clause-nonzero
divided-requires-clause-nonzero c =
    let f = c.args.form in
    let s = c.first_coefficient-first.result in let d = c.gcd-divisor.result in
    let fs = fits s c.first_coefficient-first.ensures.within in
    let fd = fits d c.gcd-divisor.ensures.within in
    let fk = fits c.constant_part-number.result (subst (λ (z : ℤ). InLimit z) (sym c.constant_part-number.ensures.value) c.constant_part-number.ensures.linear.constant_within) in
    let fc = fits c.content.result c.content.ensures.within in
    let ft = fits c.turned.result c.turned.ensures.within in
    let n : ¬ (s ≡ pos 0) = λ z. c.if-first-eq0.false (ap (cast_unsigned w128) z) in
    let h : d ≡ gcd_of f.constant (content_of (coefficients f.terms)) = simp to_z-of_z at c.gcd-divisor.ensures.value ∙ (λ i. gcd_of (c.constant_part-number.ensures.value i) (c.content.ensures.value i)) in
    let k = field_divisor f s d n c.first_coefficient-first.ensures.value h in
    let t : c.turned.result ≡ turned s d = simp to_z-of_z at c.turned.ensures.value in
    let w : IsDivisor c.turned.result _ = subst (λ (z : ℤ). IsDivisor z (f.constant ∷ coefficients f.terms)) (sym t) k in
    simp to_z-of_z w.nonzero

pub divided-requires-clause-divides : goal.divided-requires-clause-divides
divided-requires-clause-divides c =
    let f = c.args.form in
    let s = c.first_coefficient-first.result in let d = c.gcd-divisor.result in
    let fs = fits s c.first_coefficient-first.ensures.within in
    let fd = fits d c.gcd-divisor.ensures.within in
    let fk = fits c.constant_part-number.result (subst (λ (z : ℤ). InLimit z) (sym c.constant_part-number.ensures.value) c.constant_part-number.ensures.linear.constant_within) in
    let fc = fits c.content.result c.content.ensures.within in
    let ft = fits c.turned.result c.turned.ensures.within in
    let n : ¬ (s ≡ pos 0) = λ z. c.if-first-eq0.false (ap (cast_unsigned w128) z) in
    let h : d ≡ gcd_of f.constant (content_of (coefficients f.terms)) = simp to_z-of_z at c.gcd-divisor.ensures.value ∙ (λ i. gcd_of (c.constant_part-number.ensures.value i) (c.content.ensures.value i)) in
    let k = field_divisor f s d n c.first_coefficient-first.ensures.value h in
    let t : c.turned.result ≡ turned s d = simp to_z-of_z at c.turned.ensures.value in
    let w : IsDivisor c.turned.result _ = subst (λ (z : ℤ). IsDivisor z (f.constant ∷ coefficients f.terms)) (sym t) k in
    subst (λ (z : ℤ). DividesAll z (f.constant ∷ coefficients f.terms)) (sym (to_z-of_z w128 c.turned.result ft)) w.divides

pub returns-in-Ok-clause-normal : goal.returns-in-Ok-clause-normal
returns-in-Ok-clause-normal c =
    let f = c.args.form in
    let s = c.first_coefficient-first.result in let d = c.gcd-divisor.result in
    let fs = fits s c.first_coefficient-first.ensures.within in
    let fd = fits d c.gcd-divisor.ensures.within in
    let fk = fits c.constant_part-number.result (subst (λ (z : ℤ). InLimit z) (sym c.constant_part-number.ensures.value) c.constant_part-number.ensures.linear.constant_within) in
    let fc = fits c.content.result c.content.ensures.within in
    let ft = fits c.turned.result c.turned.ensures.within in
    let n : ¬ (s ≡ pos 0) = λ z. c.if-first-eq0.false (ap (cast_unsigned w128) z) in
    let h : d ≡ gcd_of f.constant (content_of (coefficients f.terms)) = simp to_z-of_z at c.gcd-divisor.ensures.value ∙ (λ i. gcd_of (c.constant_part-number.ensures.value i) (c.content.ensures.value i)) in
    let t : c.turned.result ≡ turned s d = simp to_z-of_z at c.turned.ensures.value in
    let v : c.in-Ok.form ≡ quotient f (turned s d) = simp to_z-of_z at c.in-Ok.ensures.value ∙ ap (quotient f) t in
    field_atom f s d (relation_of c.args.relation) (relation_of c.facing.result) c.in-Ok.form n c.first_coefficient-first.ensures.value h (simp to_z-of_z at c.facing.ensures) v
