use Rattle.std.proofs.Common.{◌≡◌, Result, IfOk, option_map, ap, sym, ◌∙◌, subst}
use Rattle.normal_atoms.specs.Atoms.{context_of}
use Rattle.language_meaning.specs.RationalForms.{RationalForm, Missing, multiple_of_form, quotient_of_forms}
use Rattle.written_atoms.specs.Rational.{rational_of, there}
use Rattle.exact_numbers.specs.Frac.{inverted}
use Rattle.written_atoms.proofs.StepCases.{over_integers, over_divisor, over_other}
use Rattle.written_atoms.proofs.rational.Rational.over.Goals as goal

pub returns-in-Integers : goal.returns-in-Integers
returns-in-Integers c =
    let p = rational_of c.args.self.now in let q = rational_of c.args.divisor.now in
    sym (ap (λ k. there (quotient_of_forms (context_of k) p q)) c.in-Integers.is ∙ ap there (over_integers p q))

pub returns-then-is_divisor : goal.returns-then-is_divisor
returns-then-is_divisor c =
    let p = rational_of c.args.self.now in let q = rational_of c.args.divisor.now in
    let e = ap (multiple_of_form p) (c.invert.ensures.value ∙ ap inverted c.constant_part.ensures) ∙ sym (over_divisor p q (sym c.if-is_divisor.ensures)) ∙ ap (λ k. quotient_of_forms (context_of k) p q) (sym c.in-Fields.is) in
    subst (λ (x : Result RationalForm Missing). IfOk c.multiple.result (λ o. option_map rational_of o ≡ there x)) e c.multiple.ensures

pub returns-else-is_divisor : goal.returns-else-is_divisor
returns-else-is_divisor c =
    let p = rational_of c.args.self.now in let q = rational_of c.args.divisor.now in
    sym (ap (λ k. there (quotient_of_forms (context_of k) p q)) c.in-Fields.is ∙ ap there (over_other p q (sym c.if-is_divisor.ensures)))
