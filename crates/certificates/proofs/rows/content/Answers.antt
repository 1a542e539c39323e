use Rattle.std.proofs.Common.{rules, ◌≡◌, ◌∙◌, ap₂, FitsSigned}
use Rattle.std.specs.Int.{w128}
use Rattle.std.proofs.lemmas.Int.{to_z-of_z}
use Rattle.exact_numbers.specs.Divides.{gcd_of}
use Rattle.exact_numbers.proofs.Casts.{fits}
use Rattle.logic_meaning.specs.Terms.{coefficients}
use Rattle.certificates.proofs.Contents.{content_first}
use Rattle.certificates.proofs.rows.content.Goals as goal

pub returns-clause-value : goal.returns-clause-value
returns-clause-value c =
    let f = c.args.form.now in
    let fk : FitsSigned w128 c.constant_part.result = search rules in
    let fc = fits c.content.result c.content.ensures.within in
    let fg = fits c.gcd.result c.gcd.ensures.within in
    let e : c.gcd.result ≡ gcd_of c.constant_part.result c.content.result = simp to_z-of_z at c.gcd.ensures.value in
    to_z-of_z w128 c.gcd.result fg ∙ e ∙ ap₂ gcd_of c.constant_part.ensures.value c.content.ensures.value ∙ content_first f.constant (coefficients f.terms)
