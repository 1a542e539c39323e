use Rattle.std.proofs.Common.{◌≡◌, [], Err, Some, ap, sym, ◌∙◌, subst, pos, ℤ, ◌<ℤ◌, ◌*ℤ◌}
use Rattle.std.specs.Int.{w128}
use Rattle.std.proofs.lemmas.Int.{to_z-of_z}
use Rattle.exact_numbers.specs.Fraction.{frac_of}
use Rattle.exact_numbers.specs.Limit.{InLimit, PastLimit}
use Rattle.exact_numbers.proofs.Order.{mul_positive}
use Rattle.exact_numbers.proofs.Casts.{fits}
use Rattle.logic_meaning.specs.Form.{Form}
use Rattle.logic_meaning.specs.Combining.{CombinePasses}
use Rattle.linear_forms.specs.Combinations.{IsCombination}
use Rattle.language_meaning.specs.RationalForms.{lowest_form}
use Rattle.written_atoms.specs.Rational.{rational_of}
use Rattle.written_atoms.proofs.Steps.{product_gives, product_stops, denominator_stops}
use Rattle.written_atoms.proofs.rational.Rational.multiple.Goals as goal

pub returns-in_default : goal.returns-in_default
returns-in_default c =
    let v = c.args.self.now in let k = c.args.number in
    let fv = fits v.denominator v.within in let fk = fits k.denominator k.denominator_within in
    let h : PastLimit (v.denominator *ℤ k.denominator) = simp to_z-of_z at c.in_default.ensures.value in
    sym (denominator_stops (rational_of v) (frac_of k) h)

pub lowest-requires-clause-positive : goal.lowest-requires-clause-positive
lowest-requires-clause-positive c =
    let v = c.args.self.now in let k = c.args.number in
    let fv = fits v.denominator v.within in let fk = fits k.denominator k.denominator_within in
    let d = c.in-Some.denominator in
    let e : d ≡ v.denominator *ℤ k.denominator = simp to_z-of_z at c.in-Some.ensures.value.0 in
    let fd = fits d c.in-Some.ensures.value.1 in
    subst (λ (z : ℤ). pos 0 <ℤ z) (sym (to_z-of_z w128 d fd ∙ e)) (mul_positive v.positive k.positive)

pub returns-in-Ok : goal.returns-in-Ok
returns-in-Ok c =
    let v = c.args.self.now in let k = c.args.number in
    let fv = fits v.denominator v.within in let fk = fits k.denominator k.denominator_within in
    let fn = fits k.numerator k.numerator_within in
    let d = c.in-Some.denominator in
    let e : d ≡ v.denominator *ℤ k.denominator = simp to_z-of_z at c.in-Some.ensures.value.0 in
    let fd = fits d c.in-Some.ensures.value.1 in
    let r : rational_of c.in_ok-lowest-in-Ok.field-0 ≡ lowest_form c.in-Ok.form d = simp to_z-of_z at c.in_ok-lowest-in-Ok.ensures.rule in
    let j : IsCombination k.numerator v.form (pos 0) (record { terms = []; constant = pos 0 }) c.in-Ok.form =
    subst (λ (g : Form). IsCombination k.numerator v.form (pos 0) g c.in-Ok.form) c.constant-nothing.ensures.form (simp to_z-of_z at c.in-Ok.ensures.combined) in
    let h : InLimit (v.denominator *ℤ k.denominator) = subst (λ (z : ℤ). InLimit z) e c.in-Some.ensures.value.1 in
    ap Some (r ∙ ap (lowest_form c.in-Ok.form) e) ∙ sym (product_gives (rational_of v) (frac_of k) h c.in-Ok.form j)

pub returns-in-Err-Overflow : goal.returns-in-Err-Overflow
returns-in-Err-Overflow c =
    let v = c.args.self.now in let k = c.args.number in
    let fn = fits k.numerator k.numerator_within in
    let o : CombinePasses k.numerator v.form (pos 0) c.constant-nothing.result = simp to_z-of_z at (c.in-Err-Overflow.ensures.overflow (ap Err c.in-Err-Overflow.field-0-is)) in
    let h = subst (λ (g : Form). CombinePasses k.numerator v.form (pos 0) g) c.constant-nothing.ensures.form o in
    sym (product_stops (rational_of v) (frac_of k) h)
