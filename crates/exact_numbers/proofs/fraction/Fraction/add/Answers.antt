use Rattle.std.proofs.Common.{◌≡◌, Some, None, ap, ◌∙◌, sym}
use Rattle.std.specs.Prelude.{option_map, ◌+ℤ◌}
use Rattle.std.proofs.lemmas.Int.{to_z-of_z}
use Rattle.exact_numbers.specs.Limit.{checked}
use Rattle.exact_numbers.specs.Fraction.{frac_of}
use Rattle.exact_numbers.specs.Frac.{multiple, scaled, lowest}
use Rattle.exact_numbers.proofs.Casts.{fits}
use Rattle.exact_numbers.proofs.Limits.{formed_by}
use Rattle.exact_numbers.proofs.FractionRule.{refused_multiple, refused_first, refused_second, refused_sum, formed_sum}
use Rattle.exact_numbers.proofs.FractionView.{sum_given}
use Rattle.exact_numbers.proofs.fraction.Fraction.add.Goals as goal

pub returns-in_err-multiple : goal.returns-in_err-multiple
returns-in_err-multiple c =
    let p = frac_of c.args.self in let q = frac_of c.args.other in
    let fp = fits c.args.self.denominator c.args.self.denominator_within in
    let fq = fits c.args.other.denominator c.args.other.denominator_within in
    let e = simp to_z-of_z at c.in_err-multiple.ensures.rule in
    let r = ap (option_map frac_of) c.from_residual.ensures ∙ sym (refused_multiple p q (sym e)) in
    record { rule = r; outcome = sum_given c.from_residual.result p q c.args.self.positive c.args.other.positive r }

pub returns-in_err-left : goal.returns-in_err-left
returns-in_err-left c =
    let p = frac_of c.args.self in let q = frac_of c.args.other in
    let fp = fits c.args.self.denominator c.args.self.denominator_within in
    let fq = fits c.args.other.denominator c.args.other.denominator_within in
    let m = formed_by (multiple p q) c.in_ok-multiple.multiple (simp to_z-of_z at c.in_ok-multiple.ensures.rule) in
    let fm = fits c.in_ok-multiple.multiple m.within in
    let e : None ≡ checked (scaled p (multiple p q)) = rw m.same at (simp to_z-of_z at c.in_err-left.ensures) in
    let r = ap (option_map frac_of) c.from_residual-in_err-left.ensures ∙ sym (refused_first p q m.formed (sym e)) in
    record { rule = r; outcome = sum_given c.from_residual-in_err-left.result p q c.args.self.positive c.args.other.positive r }

pub returns-in_err-right : goal.returns-in_err-right
returns-in_err-right c =
    let p = frac_of c.args.self in let q = frac_of c.args.other in
    let fp = fits c.args.self.denominator c.args.self.denominator_within in
    let fq = fits c.args.other.denominator c.args.other.denominator_within in
    let m = formed_by (multiple p q) c.in_ok-multiple.multiple (simp to_z-of_z at c.in_ok-multiple.ensures.rule) in
    let fm = fits c.in_ok-multiple.multiple m.within in
    let left : Some c.in_ok-left.left ≡ checked (scaled p (multiple p q)) = rw m.same at (simp to_z-of_z at c.in_ok-left.ensures) in
    let a = formed_by (scaled p (multiple p q)) c.in_ok-left.left left in
    let e : None ≡ checked (scaled q (multiple p q)) = rw m.same at (simp to_z-of_z at c.in_err-right.ensures) in
    let r = ap (option_map frac_of) c.from_residual-in_err-right.ensures ∙ sym (refused_second p q m.formed a.formed (sym e)) in
    record { rule = r; outcome = sum_given c.from_residual-in_err-right.result p q c.args.self.positive c.args.other.positive r }

pub returns-in_err-total : goal.returns-in_err-total
returns-in_err-total c =
    let p = frac_of c.args.self in let q = frac_of c.args.other in
    let fp = fits c.args.self.denominator c.args.self.denominator_within in
    let fq = fits c.args.other.denominator c.args.other.denominator_within in
    let m = formed_by (multiple p q) c.in_ok-multiple.multiple (simp to_z-of_z at c.in_ok-multiple.ensures.rule) in
    let fm = fits c.in_ok-multiple.multiple m.within in
    let left : Some c.in_ok-left.left ≡ checked (scaled p (multiple p q)) = rw m.same at (simp to_z-of_z at c.in_ok-left.ensures) in
    let a = formed_by (scaled p (multiple p q)) c.in_ok-left.left left in
    let right : Some c.in_ok-right.right ≡ checked (scaled q (multiple p q)) = rw m.same at (simp to_z-of_z at c.in_ok-right.ensures) in
    let b = formed_by (scaled q (multiple p q)) c.in_ok-right.right right in
    let fa = fits c.in_ok-left.left a.within in let fb = fits c.in_ok-right.right b.within in
    let e : None ≡ checked (scaled p (multiple p q) +ℤ scaled q (multiple p q)) = rw (a.same, b.same) at (simp to_z-of_z at c.in_err-total.ensures.rule) in
    let r = ap (option_map frac_of) c.from_residual-in_err-total.ensures ∙ sym (refused_sum p q m.formed a.formed b.formed (sym e)) in
    record { rule = r; outcome = sum_given c.from_residual-in_err-total.result p q c.args.self.positive c.args.other.positive r }

pub returns : goal.returns
returns c =
    let p = frac_of c.args.self in let q = frac_of c.args.other in
    let fp = fits c.args.self.denominator c.args.self.denominator_within in
    let fq = fits c.args.other.denominator c.args.other.denominator_within in
    let m = formed_by (multiple p q) c.in_ok-multiple.multiple (simp to_z-of_z at c.in_ok-multiple.ensures.rule) in
    let fm = fits c.in_ok-multiple.multiple m.within in
    let left : Some c.in_ok-left.left ≡ checked (scaled p (multiple p q)) = rw m.same at (simp to_z-of_z at c.in_ok-left.ensures) in
    let a = formed_by (scaled p (multiple p q)) c.in_ok-left.left left in
    let right : Some c.in_ok-right.right ≡ checked (scaled q (multiple p q)) = rw m.same at (simp to_z-of_z at c.in_ok-right.ensures) in
    let b = formed_by (scaled q (multiple p q)) c.in_ok-right.right right in
    let fa = fits c.in_ok-left.left a.within in let fb = fits c.in_ok-right.right b.within in
    let total : Some c.in_ok-total.total ≡ checked (scaled p (multiple p q) +ℤ scaled q (multiple p q)) = rw (a.same, b.same) at (simp to_z-of_z at c.in_ok-total.ensures.rule) in
    let t = formed_by (scaled p (multiple p q) +ℤ scaled q (multiple p q)) c.in_ok-total.total total in
    let ft = fits c.in_ok-total.total t.within in
    let e : frac_of c.reduced.result ≡ lowest (scaled p (multiple p q) +ℤ scaled q (multiple p q)) (multiple p q) = rw (t.same, m.same) at (simp to_z-of_z at c.reduced.ensures.rule) in
    let r = ap Some e ∙ sym (formed_sum p q m.formed a.formed b.formed t.formed) in
    record { rule = r; outcome = sum_given (Some c.reduced.result) p q c.args.self.positive c.args.other.positive r }
