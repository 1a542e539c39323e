use Rattle.std.proofs.Common.{◌≡◌, ◌∙◌, ap₂, sym}
use Rattle.std.specs.Int.{w128}
use Rattle.std.proofs.lemmas.Int.{to_z-of_z}
use Rattle.exact_numbers.specs.Divides.{gcd_of}
use Rattle.exact_numbers.proofs.Casts.{fits}
use Rattle.logic_meaning.specs.Rows.{numbers_of}
use Rattle.certificates.proofs.Contents.{content_both}
use Rattle.certificates.proofs.rows.Row.content.Goals as goal

pub returns-clause-value : goal.returns-clause-value
returns-clause-value c =
    let r = c.args.self.now in
    let ff = fits c.content.result c.content.ensures.within in
    let fm = fits c.content-2.result c.content-2.ensures.within in
    let fg = fits c.gcd.result c.gcd.ensures.within in
    let e : c.gcd.result ≡ gcd_of c.content.result c.content-2.result = simp to_z-of_z at c.gcd.ensures.value in
    to_z-of_z w128 c.gcd.result fg ∙ e ∙ ap₂ gcd_of c.content.ensures.value c.content-2.ensures.value ∙ sym (content_both (numbers_of r.form) (numbers_of r.multipliers))
