use Rattle.std.proofs.Common.{◌≡◌, arith, pos, to_z, of_z, ap, sym, ◌∙◌, subst, ◌<ℤ◌, ◌≤ℤ◌}
use Rattle.std.specs.Prelude.{◌-ℤ◌, neg_ℤ}
use Rattle.std.specs.Int.{w128}
use Rattle.std.proofs.lemmas.Int.{ints, to_z-of_z}
use Rattle.exact_numbers.specs.Frac.{Frac, SameValue, IsLowest, true_product, whole_frac, inverted}
use Rattle.exact_numbers.specs.Fraction.{frac_of}
use Rattle.exact_numbers.proofs.Casts.{fits}
use Rattle.exact_numbers.proofs.FractionRule.{inverted_negative, inverted_other, inverted_one, inverted_lowest}
use Rattle.exact_numbers.proofs.fraction.Fraction.invert.Goals as goal
use Rattle.exact_numbers.proofs.fraction.Fraction.invert.Goals.{then-self-lt0, else-self-lt0}

pub returns : goal.returns
returns c =
    let s = c.args.self in
    let p = frac_of s in
    let fn = fits s.numerator s.numerator_within in
    let fd = fits s.denominator s.denominator_within in
    let wn = s.numerator_within in let wd = s.denominator_within in
    let n = c.if-self-lt0.result.0 in let d = c.if-self-lt0.result.1.0 in
    let r : record { numerator = n; denominator = d } ≡ inverted p =
    elim c.if-self-lt0.branch [
      | then-self-lt0 w ↦
          let above : to_z w128 (of_z w128 (pos 0 -ℤ to_z w128 (of_z w128 s.denominator))) ≡ neg_ℤ s.denominator = omega (arith, ints) in
          let below : to_z w128 (of_z w128 (pos 0 -ℤ to_z w128 (of_z w128 s.numerator))) ≡ neg_ℤ s.numerator = omega (arith, ints) in
          let h : s.numerator <ℤ pos 0 = omega (arith, ints, w.if-self-lt0.true) in
          let ea = ap (λ x. x.0) w.result-is ∙ above in let eb = ap (λ x. x.1.0) w.result-is ∙ below in
          (λ i. record { numerator = ea i; denominator = eb i }) ∙ sym (inverted_negative p h)
      | else-self-lt0 w ↦
          let h : pos 0 ≤ℤ s.numerator = omega (arith, ints, w.if-self-lt0.false) in
          let ea = ap (λ x. x.0) w.result-is ∙ to_z-of_z w128 s.denominator fd in let eb = ap (λ x. x.1.0) w.result-is ∙ to_z-of_z w128 s.numerator fn in
          (λ i. record { numerator = ea i; denominator = eb i }) ∙ sym (inverted_other p h)
    ]
    in
    record {
      value = r;
      one = subst (λ (q : Frac). SameValue (true_product q p) (whole_frac (pos 1))) (sym r) (inverted_one p);
      lowest = λ l. subst (λ (q : Frac). IsLowest q) (sym r) (inverted_lowest p l);
    }
