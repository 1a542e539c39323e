use Rattle.std.proofs.Common.{◌≡◌, ◌∷◌, List, pos, ℤ, ap, sym, ◌∙◌, subst, to_z, of_z}
use Rattle.std.specs.Int.{w128, cast_unsigned}
use Rattle.std.proofs.lemmas.Int.{to_z-of_z}
use Rattle.exact_numbers.specs.Limit.{InLimit}
use Rattle.exact_numbers.specs.Division.{DividesAll}
use Rattle.exact_numbers.proofs.Casts.{fits}
use Rattle.logic_meaning.specs.Form.{Form, Term}
use Rattle.logic_meaning.specs.Formula.{One}
use Rattle.logic_meaning.specs.Atom.{Compare}
use Rattle.logic_meaning.specs.Terms.{coefficients}
use Rattle.logic_meaning.specs.Reduction.{quotient, quotients}
use Rattle.normal_atoms.specs.Atoms.{relation_of}
use Rattle.normal_atoms.specs.Bounds.{bounded, IsWithin}
use Rattle.normal_atoms.specs.declared.comparison.Bound.{Bound}
use Rattle.normal_atoms.specs.declared.comparison.Bound.TheVariants.{At}
use Rattle.logic_meaning.specs.NormalForm.{turned}
use Rattle.normal_atoms.proofs.Stepped.{IsDivisor, integer_divisor, integer_tree, quotient_terms}
use Rattle.normal_atoms.proofs.comparison.over_integers.Goals as goal

pub divided-requires-clause-divides : goal.divided-requires-clause-divides
divided-requires-clause-divides c =
    let f = c.args.form in
    let s = c.first_coefficient-first.result in let d = c.content-content.result in
    let fs = fits s c.first_coefficient-first.ensures.within in
    let fd = fits d c.content-content.ensures.within in
    let ft = fits c.turned-in-Some-At.result c.turned-in-Some-At.ensures.within in
    let n : ¬ (s ≡ pos 0) = λ z. c.if-first-eq0.false (ap (cast_unsigned w128) z) in
    let k = integer_divisor f s d n c.first_coefficient-first.ensures.value c.content-content.ensures.value in
    let t : c.turned-in-Some-At.result ≡ turned s d = simp to_z-of_z at c.turned-in-Some-At.ensures.value in
    let w = subst (λ (z : ℤ). IsDivisor z (pos 0 ∷ coefficients f.terms)) (sym t) k in
    subst (λ (g : Form). DividesAll (to_z w128 (of_z w128 c.turned-in-Some-At.result)) (g.constant ∷ coefficients g.terms)) (sym c.with_constant.ensures.form)
    (subst (λ (z : ℤ). DividesAll z (pos 0 ∷ coefficients f.terms)) (sym (to_z-of_z w128 c.turned-in-Some-At.result ft)) w.divides)

pub returns-in-Ok-clause-normal : goal.returns-in-Ok-clause-normal
returns-in-Ok-clause-normal c =
    let f = c.args.form in
    let s = c.first_coefficient-first.result in let d = c.content-content.result in
    let b = c.in-Some-At in
    let fs = fits s c.first_coefficient-first.ensures.within in
    let fd = fits d c.content-content.ensures.within in
    let fk = fits c.constant_part-number.result (subst (λ (z : ℤ). InLimit z) (sym c.constant_part-number.ensures.value) c.constant_part-number.ensures.linear.constant_within) in
    let fu = fits c.turned.result c.turned.ensures.within in
    let ft = fits c.turned-in-Some-At.result c.turned-in-Some-At.ensures.within in
    let n : ¬ (s ≡ pos 0) = λ z. c.if-first-eq0.false (ap (cast_unsigned w128) z) in
    let u : c.turned.result ≡ turned s f.constant = simp to_z-of_z at c.turned.ensures.value ∙ ap (turned s) c.constant_part-number.ensures.value in
    let t : c.turned-in-Some-At.result ≡ turned s d = simp to_z-of_z at c.turned-in-Some-At.ensures.value in
    let e = simp to_z-of_z at b.ensures in
    let v = quotients (turned s d) f.terms in
    let w : IsWithin (At b.relation b.number) = subst IsWithin b.field-0-is e.0 in
    let fn = fits b.number w in
    let q : c.in-Ok.form ≡ quotient c.with_constant.result (turned s d) = simp to_z-of_z at c.in-Ok.ensures.value ∙ ap (quotient c.with_constant.result) t in
    let ts : c.in-Ok.form.terms ≡ v = ap (λ (g : Form). g.terms) q ∙ quotient_terms c.with_constant.result (turned s d) ∙ ap (λ (g : Form). quotients (turned s d) g.terms) c.with_constant.ensures.form in
    let g : c.with_constant-in-Ok.result ≡ record { terms = v; constant = b.number } = simp to_z-of_z at c.with_constant-in-Ok.ensures.form ∙ ap (λ (us : List Term). record { terms = us; constant = b.number }) ts in
    ap (λ h. One (Compare (relation_of b.relation) h)) g
    ∙ ap (λ (o : Bound). bounded o v) (sym b.field-0-is)
    ∙ e.1 v
    ∙ integer_tree f s d (relation_of c.args.relation) (relation_of c.facing.result) c.turned.result n c.first_coefficient-first.ensures.value c.content-content.ensures.value (simp to_z-of_z at c.facing.ensures) u
