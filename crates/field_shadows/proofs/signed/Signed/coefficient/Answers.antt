use Rattle.std.proofs.Common.{◌≡◌, ◌∙◌, ap, sym}
use Rattle.std.specs.Int.{w128}
use Rattle.std.proofs.lemmas.Int.{to_z-of_z}
use Rattle.exact_numbers.proofs.Casts.{fits}
use Rattle.field_shadows.specs.Signed.{signed_by}
use Rattle.field_shadows.proofs.Cancelling.{coefficient_turned}
use Rattle.field_shadows.proofs.signed.Signed.coefficient.Goals as goal

pub returns-clause-value : goal.returns-clause-value
returns-clause-value c =
    let s = c.args.self in
    let k = c.coefficient in
    let fk = fits k.result k.ensures.within in
    let fr = fits c.with_sign.result c.with_sign.ensures.within in
    let e : c.with_sign.result ≡ signed_by s.turned k.result = simp to_z-of_z at c.with_sign.ensures.value in
    to_z-of_z w128 c.with_sign.result fr ∙ e ∙ ap (signed_by s.turned) k.ensures.value ∙ sym (coefficient_turned s.turned s.form.now c.args.name.number)
