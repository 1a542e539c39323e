use Rattle.std.proofs.Common.{◌≡◌, ◌∙◌, ap₂, sym, subst, pos, ◌+ℤ◌, ◌*ℤ◌}
use Rattle.std.proofs.lemmas.Int.{to_z-of_z}
use Rattle.exact_numbers.proofs.Casts.{fits}
use Rattle.logic_meaning.specs.Form.{Form, coefficient}
use Rattle.linear_forms.specs.Combinations.{IsCombination}
use Rattle.field_shadows.specs.Signed.{signed_by, form_of_signed, IsCancelled}
use Rattle.field_shadows.proofs.Listing.{ok_map}
use Rattle.field_shadows.proofs.Cancelling.{is_cancelled}
use Rattle.field_shadows.proofs.signed.Signed.cancel.Goals as goal

pub returns : goal.returns
returns c =
    let s = c.args.self in
    let o = c.args.other in
    let x = c.args.name.number in
    let k = c.factors-times in
    let t = k.result.0 in
    let b = k.result.1 in
    let fa = fits c.coefficient.result c.coefficient.ensures.within in
    let fb = fits c.coefficient-2.result c.coefficient-2.ensures.within in
    let ft = fits t k.ensures.within in
    let fy = fits b k.ensures.other_within in
    let fu = fits c.with_sign.result c.with_sign.ensures.within in
    let fv = fits c.with_sign-2.result c.with_sign-2.ensures.within in
    let u : c.with_sign.result ≡ signed_by s.turned t = simp to_z-of_z at c.with_sign.ensures.value in
    let v : c.with_sign-2.result ≡ signed_by o.turned b = simp to_z-of_z at c.with_sign-2.ensures.value in
    let e : t *ℤ c.coefficient.result +ℤ b *ℤ c.coefficient-2.result ≡ pos 0 = simp to_z-of_z at k.ensures.cancel in
    let gone : t *ℤ coefficient x (form_of_signed s) +ℤ b *ℤ coefficient x (form_of_signed o) ≡ pos 0 =
    ap₂ (λ w z. t *ℤ w +ℤ b *ℤ z) (sym c.coefficient.ensures.value) (sym c.coefficient-2.ensures.value) ∙ e in
    let all = simp to_z-of_z at c.combine.ensures.combined in
    ok_map c.combine.result
    (λ (h : Form). IsCombination c.with_sign.result s.form.now c.with_sign-2.result o.form.now h)
    (λ (h : Form). IsCancelled x (form_of_signed s) (form_of_signed o) h)
    (λ h i. is_cancelled x s.turned s.form.now o.turned o.form.now h t b k.ensures.positive gone (subst (λ z. IsCombination z s.form.now (signed_by o.turned b) o.form.now h) u (subst (λ z. IsCombination c.with_sign.result s.form.now z o.form.now h) v i)))
    all
