-- The fraction rule: its steps at fractions, and that steps which keep a meaning give a whole term its meaning.
use Rattle.std.proofs.Common.{◌≡◌, ◌<◌, inl, inr, ℕ, List, ap, ◌∙◌, subst, refl, arith}
use Rattle.std.proofs.Math.IntN.{ℤ, pos, ◌+ℤ◌, ◌*ℤ◌}
use Rattle.std.specs.Prelude.{unsigned_abs, Result, Ok, Err}
use Rattle.std.proofs.lemmas.Int.{ints}
use Rattle.exact_numbers.specs.Frac.{Frac, IsProper, SameValue, whole_frac, true_sum, true_product, true_power, negated, sum_step, product_step}
use Rattle.exact_numbers.proofs.Ring.{ring}
use Rattle.exact_numbers.proofs.Order.{mul_positive}
use Rattle.language_meaning.specs.declared.tree.Literal.{Literal}
use Rattle.written_syntax.specs.declared.value.EvalError.{EvalError}
use Rattle.language_meaning.specs.Trees.{TermTree, TermTrees, Number, Named, Sum, Product, Quotient, Power, Negative, none, also}
use Rattle.language_meaning.specs.Value.{NamedPoint, HasName, HaveName, literal_number, true_quotient, value, value_of_sum, value_of_product}
use Rattle.written_syntax.specs.Rule.{calculated, added as summed, multiplied as product_of, stepped, quotient_step, power_step, ◌>>=◌ as and_then}
use Rattle.written_syntax.proofs.ValueLaw.{value_proper, with_zero, with_one, zero_before, one_before, one_positive}
use Rattle.language_meaning.specs.FractionRule.{Steps, by_rule, added, multiplied, ◌>>=◌}
use Rattle.resolved_formulas.specs.Fractions.{fractions}

-- ---- at fractions

one_then : {A B : Type 0} (r : Result A EvalError) (f g : A → Result B EvalError) → ((x : A) → f x ≡ g x) → (r >>= f) ≡ and_then r g
one_then (Ok x) f g h = h x
one_then (Err e) f g h = refl

same_then : {A B : Type 0} (r s : Result A EvalError) (f g : A → Result B EvalError) → r ≡ s → ((x : A) → f x ≡ g x) → (r >>= f) ≡ and_then s g
same_then r s f g e h = one_then r f g h ∙ ap (λ t. and_then t g) e

mutual
  pub rule_of_fractions : (t : TermTree) (p : NamedPoint) → by_rule (fractions p) t ≡ calculated t p
  rule_of_fractions (Number n) p = refl
  rule_of_fractions (Named x) p = refl
  rule_of_fractions (Sum ts) p = rule_of_sums (whole_frac (pos 0)) ts p
  rule_of_fractions (Product ts) p = rule_of_products (whole_frac (pos 1)) ts p
  rule_of_fractions (Quotient s t) p =
      same_then _ (calculated s p) _ (λ v. and_then (calculated t p) (λ w. quotient_step v w)) (rule_of_fractions s p)
      (λ v. same_then _ (calculated t p) _ (λ w. quotient_step v w) (rule_of_fractions t p) (λ w. refl))
  rule_of_fractions (Power t n) p = same_then _ (calculated t p) _ (λ v. power_step v n) (rule_of_fractions t p) (λ v. refl)
  rule_of_fractions (Negative t) p = same_then _ (calculated t p) _ (λ v. Ok (negated v)) (rule_of_fractions t p) (λ v. refl)

  rule_of_sums : (total : Frac) (ts : TermTrees) (p : NamedPoint) → added (fractions p) total ts ≡ summed total ts p
  rule_of_sums total none p = refl
  rule_of_sums total (also t ts) p =
      same_then _ (calculated t p) _ (λ v. and_then (stepped (sum_step total v)) (λ sum. summed sum ts p)) (rule_of_fractions t p)
      (λ v. same_then _ (stepped (sum_step total v)) _ (λ sum. summed sum ts p) refl (λ sum. rule_of_sums sum ts p))

  rule_of_products : (total : Frac) (ts : TermTrees) (p : NamedPoint) → multiplied (fractions p) total ts ≡ product_of total ts p
  rule_of_products total none p = refl
  rule_of_products total (also t ts) p =
      same_then _ (calculated t p) _ (λ v. and_then (stepped (product_step total v)) (λ product. product_of product ts p)) (rule_of_fractions t p)
      (λ v. same_then _ (stepped (product_step total v)) _ (λ product. product_of product ts p) refl (λ product. rule_of_products product ts p))

-- ---- what a step before gave

pub bind_ok : {A B E : Type 0} (r : Result A E) (f : A → Result B E) (y : B) → (r >>= f) ≡ Ok y → (x : A) × (r ≡ Ok x) × (f x ≡ Ok y)
bind_ok (Ok x) f y e = (x, refl, e)
bind_ok (Err d) f y e = absurd (cc)

pub ok_same : {A E : Type 0} (x y : A) → (let r : Result A E = Ok x in r) ≡ Ok y → x ≡ y
ok_same x y e = cc

-- ---- sums and products taken together in another way

sum_regrouped : (a b c d x y : ℤ) → ((a *ℤ d +ℤ c *ℤ b) *ℤ y +ℤ x *ℤ (b *ℤ d)) *ℤ (b *ℤ (d *ℤ y)) ≡ (a *ℤ (d *ℤ y) +ℤ (c *ℤ y +ℤ x *ℤ d) *ℤ b) *ℤ ((b *ℤ d) *ℤ y)
sum_regrouped a b c d x y = simp ring (omega (arith, ints))

product_regrouped : (a b c d x y : ℤ) → ((a *ℤ c) *ℤ x) *ℤ (b *ℤ (d *ℤ y)) ≡ (a *ℤ (c *ℤ x)) *ℤ ((b *ℤ d) *ℤ y)
product_regrouped a b c d x y = simp ring

-- ---- steps that keep a meaning

-- Stands v w: v stands for the fraction w. Each step keeps that; of the names it is known where they have K.
pub record KeepMeaning {V E : Type 0} (steps : Steps V E) (K : List ℕ → Type 0) (p : NamedPoint) (Stands : V → Frac → Type 0) : Type 0 where
  pub proper : (v : V) (w : Frac) → Stands v w → IsProper w
  pub same : (v : V) (w u : Frac) → Stands v w → IsProper u → SameValue w u → Stands v u
  pub number : (n : Literal) (v : V) → steps.number n ≡ Ok v → Stands v (whole_frac (literal_number n))
  pub name : (x : List ℕ) (v : V) → K x → steps.name x ≡ Ok v → Stands v (value (Named x) p)
  pub empty_sum : Stands steps.empty_sum (whole_frac (pos 0))
  pub empty_product : Stands steps.empty_product (whole_frac (pos 1))
  pub plus : (a b r : V) (v w : Frac) → Stands a v → Stands b w → steps.plus a b ≡ Ok r → Stands r (true_sum v w)
  pub times : (a b r : V) (v w : Frac) → Stands a v → Stands b w → steps.times a b ≡ Ok r → Stands r (true_product v w)
  pub over : (a b r : V) (v w : Frac) → Stands a v → Stands b w → steps.over a b ≡ Ok r → Stands r (true_quotient v w)
  pub power : (a r : V) (v : Frac) (n : Literal) → Stands a v → steps.power a n ≡ Ok r → Stands r (true_power v (unsigned_abs (literal_number n)))
  pub minus : (a r : V) (v : Frac) → Stands a v → steps.minus a ≡ Ok r → Stands r (negated v)

module _ {V E : Type 0} (steps : Steps V E) (K : List ℕ → Type 0) (p : NamedPoint) (h : 0 < p.below) (Stands : V → Frac → Type 0) (keeps : KeepMeaning steps K p Stands) where
  mutual
    -- what the rule gives for a term stands for the term's value
    pub rule_stands : (t : TermTree) (v : V) → ((x : List ℕ) → HasName t x → K x) → by_rule steps t ≡ Ok v → Stands v (value t p)
    rule_stands (Number n) v k e = keeps.number n v e
    rule_stands (Named x) v k e = keeps.name x v (k x refl) e
    rule_stands (Sum ts) v k e =
        let w = value_of_sum ts p in
        keeps.same v (true_sum (whole_frac (pos 0)) w) w (sum_stands ts steps.empty_sum v (whole_frac (pos 0)) k keeps.empty_sum e) (value_proper (Sum ts) p h) (zero_before w.numerator w.denominator)
    rule_stands (Product ts) v k e =
        let w = value_of_product ts p in
        keeps.same v (true_product (whole_frac (pos 1)) w) w (product_stands ts steps.empty_product v (whole_frac (pos 1)) k keeps.empty_product e) (value_proper (Product ts) p h) (one_before w.numerator w.denominator)
    rule_stands (Quotient s t) v k e =
        let a = bind_ok (by_rule steps s) (λ x. by_rule steps t >>= λ y. steps.over x y) v e in
        let b = bind_ok (by_rule steps t) (λ y. steps.over a.0 y) v a.2 in
        keeps.over a.0 b.0 v (value s p) (value t p) (rule_stands s a.0 (λ x m. k x (inl m)) a.1) (rule_stands t b.0 (λ x m. k x (inr m)) b.1) b.2
    rule_stands (Power t n) v k e =
        let b = bind_ok (by_rule steps t) (λ w. steps.power w n) v e in
        keeps.power b.0 v (value t p) n (rule_stands t b.0 k b.1) b.2
    rule_stands (Negative t) v k e =
        let b = bind_ok (by_rule steps t) (λ w. steps.minus w) v e in
        keeps.minus b.0 v (value t p) (rule_stands t b.0 k b.1) b.2

    sum_stands : (ts : TermTrees) (total v : V) (w : Frac) → ((x : List ℕ) → HaveName ts x → K x) → Stands total w → added steps total ts ≡ Ok v → Stands v (true_sum w (value_of_sum ts p))
    sum_stands none total v w k s e =
        keeps.same v w (true_sum w (whole_frac (pos 0))) (subst (λ x. Stands x w) (ok_same _ _ e) s) (mul_positive (keeps.proper total w s) one_positive) (with_zero w.numerator w.denominator)
    sum_stands (also t ts) total v w k s e =
        let b = bind_ok (by_rule steps t) (λ a. steps.plus total a >>= λ sum. added steps sum ts) v e in
        let d = bind_ok (steps.plus total b.0) (λ sum. added steps sum ts) v b.2 in
        let here = rule_stands t b.0 (λ x m. k x (inl m)) b.1 in
        let next = keeps.plus total b.0 d.0 w (value t p) s here d.1 in
        let rest = sum_stands ts d.0 v (true_sum w (value t p)) (λ x m. k x (inr m)) next d.2 in
        let q = value t p in let r = value_of_sum ts p in
        keeps.same v (true_sum (true_sum w q) r) (true_sum w (true_sum q r)) rest
        (mul_positive (keeps.proper total w s) (mul_positive (keeps.proper b.0 q here) (value_proper (Sum ts) p h)))
        (sum_regrouped w.numerator w.denominator q.numerator q.denominator r.numerator r.denominator)

    product_stands : (ts : TermTrees) (total v : V) (w : Frac) → ((x : List ℕ) → HaveName ts x → K x) → Stands total w → multiplied steps total ts ≡ Ok v → Stands v (true_product w (value_of_product ts p))
    product_stands none total v w k s e =
        keeps.same v w (true_product w (whole_frac (pos 1))) (subst (λ x. Stands x w) (ok_same _ _ e) s) (mul_positive (keeps.proper total w s) one_positive) (with_one w.numerator w.denominator)
    product_stands (also t ts) total v w k s e =
        let b = bind_ok (by_rule steps t) (λ a. steps.times total a >>= λ product. multiplied steps product ts) v e in
        let d = bind_ok (steps.times total b.0) (λ product. multiplied steps product ts) v b.2 in
        let here = rule_stands t b.0 (λ x m. k x (inl m)) b.1 in
        let next = keeps.times total b.0 d.0 w (value t p) s here d.1 in
        let rest = product_stands ts d.0 v (true_product w (value t p)) (λ x m. k x (inr m)) next d.2 in
        let q = value t p in let r = value_of_product ts p in
        keeps.same v (true_product (true_product w q) r) (true_product w (true_product q r)) rest
        (mul_positive (keeps.proper total w s) (mul_positive (keeps.proper b.0 q here) (value_proper (Product ts) p h)))
        (product_regrouped w.numerator w.denominator q.numerator q.denominator r.numerator r.denominator)
