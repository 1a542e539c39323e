use Rattle.std.proofs.Common.{◌≡◌, Err, Some, ap, sym, ◌∙◌, subst, ℤ}
use Rattle.std.specs.Prelude.{int_div}
use Rattle.std.specs.Int.{w128}
use Rattle.std.proofs.lemmas.Int.{to_z-of_z}
use Rattle.exact_numbers.specs.Limit.{InLimit, PastLimit}
use Rattle.exact_numbers.specs.Divides.{lcm_of}
use Rattle.exact_numbers.proofs.Casts.{fits}
use Rattle.exact_numbers.proofs.Limits.{formed_by}
use Rattle.logic_meaning.specs.Combining.{CombinePasses}
use Rattle.linear_forms.specs.Combinations.{IsLinear, IsCombination}
use Rattle.language_meaning.specs.RationalForms.{lowest_form}
use Rattle.written_atoms.specs.declared.rational.Rational.{Rational}
use Rattle.written_atoms.specs.Rational.{rational_of}
use Rattle.written_atoms.proofs.Steps.{AreSummed, sum_gives, sum_stops, multiple_stops}
use Rattle.written_atoms.proofs.rational.Rational.plus.Goals as goal

pub returns-in_default : goal.returns-in_default
returns-in_default c =
    let v = c.args.self.now in let w = c.args.other.now in
    let fv = fits v.denominator v.within in let fw = fits w.denominator w.within in
    let h : PastLimit (lcm_of v.denominator w.denominator) = simp to_z-of_z at c.in_default.ensures.value in
    record { rule = sym (multiple_stops (rational_of v) (rational_of w) h); linear = λ _ e. absurd (cc) }

pub lowest-requires-clause-within : goal.lowest-requires-clause-within
lowest-requires-clause-within c =
    let v = c.args.self.now in let w = c.args.other.now in
    let fv = fits v.denominator v.within in let fw = fits w.denominator w.within in
    let m = formed_by (lcm_of v.denominator w.denominator) c.in-Some.multiple (simp to_z-of_z at c.in-Some.ensures.rule) in
    subst (λ (z : ℤ). InLimit z) (sym (to_z-of_z w128 c.in-Some.multiple (fits c.in-Some.multiple m.within))) m.within

pub returns-in_ok-lowest-in-Ok : goal.returns-in_ok-lowest-in-Ok
returns-in_ok-lowest-in-Ok c =
    let v = c.args.self.now in let w = c.args.other.now in
    let fv = fits v.denominator v.within in let fw = fits w.denominator w.within in
    let n = c.in-Some.multiple in
    let m = formed_by (lcm_of v.denominator w.denominator) n (simp to_z-of_z at c.in-Some.ensures.rule) in
    let fm = fits n m.within in
    let fl = fits c.quotient-left.result c.quotient-left.ensures.within in
    let fr = fits c.quotient-right.result c.quotient-right.ensures.within in
    let el : c.quotient-left.result ≡ int_div n v.denominator = simp to_z-of_z at c.quotient-left.ensures.value in
    let er : c.quotient-right.result ≡ int_div n w.denominator = simp to_z-of_z at c.quotient-right.ensures.value in
    let j : IsCombination c.quotient-left.result v.form c.quotient-right.result w.form c.in-Ok.form = simp to_z-of_z at c.in-Ok.ensures.combined in
    let k = subst (λ (z : ℤ). IsCombination z v.form (int_div n w.denominator) w.form c.in-Ok.form) el (subst (λ (z : ℤ). IsCombination c.quotient-left.result v.form z w.form c.in-Ok.form) er j) in
    let r : rational_of c.in_ok-lowest-in-Ok.field-0 ≡ lowest_form c.in-Ok.form n = simp to_z-of_z at c.in_ok-lowest-in-Ok.ensures.rule in
    let s : AreSummed (rational_of v) (rational_of w) = record { first_sorted = c.constant_part.ensures.linear.sorted; second_sorted = c.constant_part-2.ensures.linear.sorted; first_positive = v.positive; second_positive = w.positive } in
    record { rule = ap Some r ∙ sym (sum_gives (rational_of v) (rational_of w) n m.same s m.within c.in-Ok.form k); linear = λ x e. let same : c.in_ok-lowest-in-Ok.field-0 ≡ x = cc in subst (λ (r : Rational). IsLinear r.form) same c.in_ok-lowest-in-Ok.ensures.linear }

pub returns-in-Err-Overflow : goal.returns-in-Err-Overflow
returns-in-Err-Overflow c =
    let v = c.args.self.now in let w = c.args.other.now in
    let fv = fits v.denominator v.within in let fw = fits w.denominator w.within in
    let n = c.in-Some.multiple in
    let m = formed_by (lcm_of v.denominator w.denominator) n (simp to_z-of_z at c.in-Some.ensures.rule) in
    let fm = fits n m.within in
    let fl = fits c.quotient-left.result c.quotient-left.ensures.within in
    let fr = fits c.quotient-right.result c.quotient-right.ensures.within in
    let el : c.quotient-left.result ≡ int_div n v.denominator = simp to_z-of_z at c.quotient-left.ensures.value in
    let er : c.quotient-right.result ≡ int_div n w.denominator = simp to_z-of_z at c.quotient-right.ensures.value in
    let j : CombinePasses c.quotient-left.result v.form c.quotient-right.result w.form = simp to_z-of_z at (c.in-Err-Overflow.ensures.overflow (ap Err c.in-Err-Overflow.field-0-is)) in
    let k = subst (λ (z : ℤ). CombinePasses z v.form (int_div n w.denominator) w.form) el (subst (λ (z : ℤ). CombinePasses c.quotient-left.result v.form z w.form) er j) in
    let s : AreSummed (rational_of v) (rational_of w) = record { first_sorted = c.constant_part.ensures.linear.sorted; second_sorted = c.constant_part-2.ensures.linear.sorted; first_positive = v.positive; second_positive = w.positive } in
    record { rule = sym (sum_stops (rational_of v) (rational_of w) n m.same s m.within k); linear = λ _ e. absurd (cc) }
