use Rattle.std.proofs.Common.{◌≡◌, Some, ap, ◌∙◌, sym, arith}
use Rattle.std.specs.Prelude.{option_map, ◌*ℤ◌}
use Rattle.std.proofs.lemmas.Int.{ints, to_z-of_z}
use Rattle.exact_numbers.specs.Fraction.{frac_of}
use Rattle.exact_numbers.specs.Frac.{lowest}
use Rattle.exact_numbers.proofs.Order.{mul_positive}
use Rattle.exact_numbers.proofs.Casts.{fits}
use Rattle.exact_numbers.proofs.Limits.{formed_by}
use Rattle.exact_numbers.proofs.FractionRule.{refused_above, refused_below, formed_product}
use Rattle.exact_numbers.proofs.FractionView.{product_given}
use Rattle.exact_numbers.proofs.fraction.Fraction.multiply.Goals as goal

pub returns-in_err-numerator : goal.returns-in_err-numerator
returns-in_err-numerator c =
    let p = frac_of c.args.self in let q = frac_of c.args.other in
    let fp = fits c.args.self.numerator c.args.self.numerator_within in
    let fq = fits c.args.other.numerator c.args.other.numerator_within in
    let e = simp to_z-of_z at c.in_err-numerator.ensures.rule in
    let r = ap (option_map frac_of) c.from_residual.ensures ∙ sym (refused_above p q (sym e)) in
    record { rule = r; outcome = product_given c.from_residual.result p q c.args.self.positive c.args.other.positive r }

pub returns-in_err-denominator : goal.returns-in_err-denominator
returns-in_err-denominator c =
    let p = frac_of c.args.self in let q = frac_of c.args.other in
    let fn = fits p.numerator c.args.self.numerator_within in
    let fm = fits q.numerator c.args.other.numerator_within in
    let fd = fits p.denominator c.args.self.denominator_within in
    let fe = fits q.denominator c.args.other.denominator_within in
    let a = formed_by (p.numerator *ℤ q.numerator) c.in_ok-numerator.numerator (simp to_z-of_z at c.in_ok-numerator.ensures.rule) in
    let e = simp to_z-of_z at c.in_err-denominator.ensures.rule in
    let r = ap (option_map frac_of) c.from_residual-in_err-denominator.ensures ∙ sym (refused_below p q a.formed (sym e)) in
    record { rule = r; outcome = product_given c.from_residual-in_err-denominator.result p q c.args.self.positive c.args.other.positive r }

pub reduced-requires-clause-positive : goal.reduced-requires-clause-positive
reduced-requires-clause-positive c =
    let p = frac_of c.args.self in let q = frac_of c.args.other in
    let fd = fits p.denominator c.args.self.denominator_within in
    let fe = fits q.denominator c.args.other.denominator_within in
    let b = formed_by (p.denominator *ℤ q.denominator) c.in_ok-denominator.denominator (simp to_z-of_z at c.in_ok-denominator.ensures.rule) in
    let m = mul_positive c.args.self.positive c.args.other.positive in
    let s = b.same in let w = b.within in
    omega (arith, ints)

pub returns : goal.returns
returns c =
    let p = frac_of c.args.self in let q = frac_of c.args.other in
    let fn = fits p.numerator c.args.self.numerator_within in
    let fm = fits q.numerator c.args.other.numerator_within in
    let fd = fits p.denominator c.args.self.denominator_within in
    let fe = fits q.denominator c.args.other.denominator_within in
    let a = formed_by (p.numerator *ℤ q.numerator) c.in_ok-numerator.numerator (simp to_z-of_z at c.in_ok-numerator.ensures.rule) in
    let b = formed_by (p.denominator *ℤ q.denominator) c.in_ok-denominator.denominator (simp to_z-of_z at c.in_ok-denominator.ensures.rule) in
    let fa = fits c.in_ok-numerator.numerator a.within in let fb = fits c.in_ok-denominator.denominator b.within in
    let e : frac_of c.reduced.result ≡ lowest (p.numerator *ℤ q.numerator) (p.denominator *ℤ q.denominator) = rw (a.same, b.same) at (simp to_z-of_z at c.reduced.ensures.rule) in
    let r = ap Some e ∙ sym (formed_product p q a.formed b.formed) in
    record { rule = r; outcome = product_given (Some c.reduced.result) p q c.args.self.positive c.args.other.positive r }
