use Rattle.std.proofs.Common.{◌≡◌, ℕ, ◌<◌, ◌*◌, ◌/◌, refl, sym, ap, ap₂, ◌∙◌, subst, arith, unsigned_abs, int_div, to_z, of_z}
use Rattle.std.proofs.Math.IntN.{ℤ, pos, ◌*ℤ◌}
use Rattle.std.specs.Prelude.{◌<ℤ◌}
use Rattle.std.specs.Int.{w128}
use Rattle.std.proofs.lemmas.Int.{ints}
use Rattle.exact_numbers.specs.Limit.{InLimit}
use Rattle.exact_numbers.proofs.Casts.{read_back}
use Rattle.formula_laws.proofs.Values.{pos_mul}
use Rattle.elimination_theory.proofs.LowestTerms.{natural}
use Rattle.test_points.proofs.Multiples.{factor_is, multiple_found, multiple_refused}
use Rattle.test_points.proofs.spans.with_modulus.Goals as goal

passed : (z w : ℤ) → InLimit w → z ≡ w → to_z w128 (of_z w128 z) ≡ w
passed z w h e = read_back z (subst InLimit (sym e) h) ∙ e

positive_abs : (z : ℤ) → pos 0 <ℤ z → 0 < unsigned_abs z
positive_abs z h = let n = natural z (omega (arith, ints)) in omega (arith, ints)

abs_within : (z : ℤ) → InLimit z → InLimit (pos (unsigned_abs z))
abs_within z h = h

factor_passed : (s t f a : ℤ) → pos 0 <ℤ s → InLimit s → InLimit t → InLimit f → a ≡ pos (unsigned_abs (to_z w128 (of_z w128 t))) →
    f ≡ int_div (to_z w128 (of_z w128 s)) (to_z w128 (of_z w128 a)) → to_z w128 (of_z w128 f) ≡ pos (unsigned_abs s / unsigned_abs t)
factor_passed s t f a h ws wt wf e g =
    let b = e ∙ ap (λ (z : ℤ). pos (unsigned_abs z)) (read_back t wt) in
    read_back f wf ∙ g ∙ ap₂ int_div (read_back s ws ∙ natural s (omega (arith, ints))) (passed a (pos (unsigned_abs t)) (abs_within t wt) b)

-- the product of the modulus and the factor
product_is : (p o m k : ℤ) (n : ℕ) → p ≡ o *ℤ k → o ≡ m → pos 0 <ℤ m → k ≡ pos n → p ≡ pos (unsigned_abs m * n)
product_is p o m k n e i h g = e ∙ ap₂ (λ x y. x *ℤ y) (i ∙ natural m (omega (arith, ints))) g ∙ sym (pos_mul (unsigned_abs m) n)

pub returns-in-Some : goal.returns-in-Some
returns-in-Some c =
    let l = unsigned_abs c.args.scale in let m = unsigned_abs c.args.modulus in let n = c.args.number in let t = c.args.times in
    let f = factor_passed c.args.scale t c.quotient-factor.result c.abs.result c.requires.scale_positive c.requires.scale_within c.requires.times_within c.quotient-factor.ensures.within c.abs.ensures.value c.quotient-factor.ensures.value in
    let i = factor_is l m t _ (positive_abs c.args.scale c.requires.scale_positive) (positive_abs c.args.modulus c.requires.modulus_positive) c.requires.reached (λ e. c.if-times-eq0.false (ap (of_z w128) e)) f in
    let a = read_back c.in-Some.multiplied c.in-Some.ensures.value.1 ∙ product_is c.in-Some.multiplied _ c.args.modulus _ _ c.in-Some.ensures.value.0 (read_back c.args.modulus c.requires.modulus_within) c.requires.modulus_positive f in
    multiple_found c.lcm.result l m (unsigned_abs n) t _ _ (λ e. c.if-times-eq0.false (ap (of_z w128) e)) i.positive (positive_abs n c.requires.positive) a (read_back n c.requires.within ∙ natural n (omega (arith, ints))) c.lcm.ensures.rule

pub returns-in-None : goal.returns-in-None
returns-in-None c =
    let l = unsigned_abs c.args.scale in let m = unsigned_abs c.args.modulus in let n = c.args.number in let t = c.args.times in
    let f = factor_passed c.args.scale t c.quotient-factor.result c.abs.result c.requires.scale_positive c.requires.scale_within c.requires.times_within c.quotient-factor.ensures.within c.abs.ensures.value c.quotient-factor.ensures.value in
    let i = factor_is l m t _ (positive_abs c.args.scale c.requires.scale_positive) (positive_abs c.args.modulus c.requires.modulus_positive) c.requires.reached (λ e. c.if-times-eq0.false (ap (of_z w128) e)) f in
    let a = product_is _ (to_z w128 (of_z w128 c.args.modulus)) c.args.modulus (to_z w128 (of_z w128 c.quotient-factor.result)) _ refl (read_back c.args.modulus c.requires.modulus_within) c.requires.modulus_positive f in
    multiple_refused l m (unsigned_abs n) t _ (λ e. c.if-times-eq0.false (ap (of_z w128) e)) i.positive (positive_abs n c.requires.positive) a c.in-None.ensures.value

pub lcm-requires-clause-first_positive : goal.lcm-requires-clause-first_positive
lcm-requires-clause-first_positive c =
    let l = unsigned_abs c.args.scale in let m = unsigned_abs c.args.modulus in let t = c.args.times in
    let f = factor_passed c.args.scale t c.quotient-factor.result c.abs.result c.requires.scale_positive c.requires.scale_within c.requires.times_within c.quotient-factor.ensures.within c.abs.ensures.value c.quotient-factor.ensures.value in
    let i = factor_is l m t _ (positive_abs c.args.scale c.requires.scale_positive) (positive_abs c.args.modulus c.requires.modulus_positive) c.requires.reached (λ e. c.if-times-eq0.false (ap (of_z w128) e)) f in
    let a = read_back c.in-Some.multiplied c.in-Some.ensures.value.1 ∙ product_is c.in-Some.multiplied _ c.args.modulus _ _ c.in-Some.ensures.value.0 (read_back c.args.modulus c.requires.modulus_within) c.requires.modulus_positive f in
    let p = i.positive in
    subst (λ (z : ℤ). pos 0 <ℤ z) (sym a) (omega (arith, ints))
