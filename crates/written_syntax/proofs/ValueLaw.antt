-- What is calculated for a term has the value of the term.
use Rattle.std.proofs.Common.{◌≡◌, ◌<◌, ℕ, zero, suc, ap, sym, ◌∙◌, subst, refl, arith, true, false, if◌then◌else◌, ⊎_elim, Option, Some, None, MatchOption}
use Rattle.std.proofs.Math.IntN.{ℤ, pos, neg_ℤ, ◌+ℤ◌, ◌*ℤ◌}
use Rattle.std.specs.Prelude.{◌<ℤ◌, ◌≤ℤ◌, Result, Ok, Err, unsigned_abs, IfOk}
use Rattle.std.specs.Ordering.{int_eq, is_eq}
use Rattle.std.proofs.lemmas.Int.{ints}
use Rattle.exact_numbers.specs.declared.fraction.Fraction.{Fraction}
use Rattle.exact_numbers.specs.Fraction.{frac_of}
use Rattle.exact_numbers.specs.Frac.{Frac, IsProper, SameValue, IsLowest, whole_frac, true_sum, true_product, true_power, negated, inverted, sum_step, product_step, power_steps}
use Rattle.exact_numbers.specs.ExactSteps.{IsExactSum, IsExactProduct, IsExactPower}
use Rattle.written_syntax.specs.PointNumbers.{Numbers, point_of}
use Rattle.written_syntax.specs.Evaluates.{Evaluates}
use Rattle.exact_numbers.proofs.Ring.{ring}
use Rattle.exact_numbers.proofs.Order.{mul_positive, mul_negative, mul_not_negative, by_less, by_order, by_zero, by_compare, compare_same, zero_product}
use Rattle.exact_numbers.proofs.FractionRule.{lowest_value, lowest_is, lowest_proper, whole_lowest, same_value_trans, sum_step_gives, product_step_gives, gcd_neg, inverted_negative, inverted_other, inverted_lowest}
use Rattle.exact_numbers.proofs.Powers.{power_outcome}
use Rattle.language_meaning.specs.declared.tree.Literal.{Literal}
use Rattle.language_meaning.specs.declared.tree.Literal.TheVariants.{Fits, Past}
use Rattle.written_syntax.specs.declared.value.EvalError.{EvalError}
use Rattle.written_syntax.specs.declared.value.EvalError.TheVariants.{ZeroDivisor}
use Rattle.language_meaning.specs.Trees.{TermTree, TermTrees, Number, Named, Sum, Product, Quotient, Power, Negative, none, also}
use Rattle.language_meaning.specs.Value.{NamedPoint, literal_number, true_quotient, value, value_of_sum, value_of_product}
use Rattle.written_syntax.specs.Rule.{calculated, added, multiplied, stepped, quotient_step, power_step, ◌>>=◌}

-- v is in lowest terms, and has the value of w
pub record Stands (v w : Frac) : Type 0 where
  pub proper : IsProper v
  pub meant : IsProper w
  pub same : SameValue v w
  pub in_lowest : IsLowest v

-- what a step before gave
pub bind_ok : {A B : Type 0} (r : Result A EvalError) (f : A → Result B EvalError) (y : B) → (r >>= f) ≡ Ok y → (x : A) × (r ≡ Ok x) × (f x ≡ Ok y)
bind_ok (Ok x) f y e = (x, refl, e)
bind_ok (Err d) f y e = absurd (cc)

pub stepped_ok : (o : Option Frac) (v : Frac) → stepped o ≡ Ok v → o ≡ Some v
stepped_ok None v e = absurd (cc)
stepped_ok (Some w) v e = cc

pub ok_same : {A : Type 0} (x y : A) → (let r : Result A EvalError = Ok x in r) ≡ Ok y → x ≡ y
ok_same x y e = cc

match_some : (P : Type 0) (Q : Frac → Type 0) (o : Option Frac) (v : Frac) → o ≡ Some v → MatchOption o P Q → Q v
match_some P Q o v e h = subst (λ (x : Option Frac). MatchOption x P Q) e h

pub sum_exact : (p q r : Frac) → IsProper p → IsProper q → sum_step p q ≡ Some r → IsExactSum p q r
sum_exact p q r hp hq e = match_some _ _ (sum_step p q) r e (sum_step_gives p q hp hq)

product_exact : (p q r : Frac) → IsProper p → IsProper q → product_step p q ≡ Some r → IsExactProduct p q r
product_exact p q r hp hq e = match_some _ _ (product_step p q) r e (product_step_gives p q hp hq)

-- sums and products of equal fractions are equal
crossed_sum : (a b c d x y z w : ℤ) → a *ℤ y ≡ x *ℤ b → c *ℤ w ≡ z *ℤ d → (a *ℤ d +ℤ c *ℤ b) *ℤ (y *ℤ w) ≡ (x *ℤ w +ℤ z *ℤ y) *ℤ (b *ℤ d)
crossed_sum a b c d x y z w e f =
    let p = simp ring at (ap (λ t. t *ℤ (d *ℤ w)) e) in
    let q = simp ring at (ap (λ t. t *ℤ (b *ℤ y)) f) in
    simp ring (omega (arith, ints, p, q))

pub sum_same : (p q v w : Frac) → SameValue p v → SameValue q w → SameValue (true_sum p q) (true_sum v w)
sum_same p q v w e f = crossed_sum p.numerator p.denominator q.numerator q.denominator v.numerator v.denominator w.numerator w.denominator e f

crossed_product : (a b c d x y z w : ℤ) → a *ℤ y ≡ x *ℤ b → c *ℤ w ≡ z *ℤ d → (a *ℤ c) *ℤ (y *ℤ w) ≡ (x *ℤ z) *ℤ (b *ℤ d)
crossed_product a b c d x y z w e f =
    let p = simp ring at (ap (λ t. t *ℤ (c *ℤ w)) e) in
    let q = simp ring at (ap (λ t. (x *ℤ b) *ℤ t) f) in
    simp ring (omega (arith, ints, p, q))

product_same : (p q v w : Frac) → SameValue p v → SameValue q w → SameValue (true_product p q) (true_product v w)
product_same p q v w e f = crossed_product p.numerator p.denominator q.numerator q.denominator v.numerator v.denominator w.numerator w.denominator e f

crossed_neg : (a b x y : ℤ) → a *ℤ y ≡ x *ℤ b → neg_ℤ a *ℤ y ≡ neg_ℤ x *ℤ b
crossed_neg a b x y e = simp ring (omega (arith, ints, e))

pub neg_same : (p v : Frac) → SameValue p v → SameValue (negated p) (negated v)
neg_same p v e = crossed_neg p.numerator p.denominator v.numerator v.denominator e

-- sums and products taken together in another way
sum_regrouped : (a b c d x y : ℤ) → ((a *ℤ d +ℤ c *ℤ b) *ℤ y +ℤ x *ℤ (b *ℤ d)) *ℤ (b *ℤ (d *ℤ y)) ≡ (a *ℤ (d *ℤ y) +ℤ (c *ℤ y +ℤ x *ℤ d) *ℤ b) *ℤ ((b *ℤ d) *ℤ y)
sum_regrouped a b c d x y = simp ring (omega (arith, ints))

sum_assoc : (p q r : Frac) → SameValue (true_sum (true_sum p q) r) (true_sum p (true_sum q r))
sum_assoc p q r = sum_regrouped p.numerator p.denominator q.numerator q.denominator r.numerator r.denominator

product_regrouped : (a b c d x y : ℤ) → ((a *ℤ c) *ℤ x) *ℤ (b *ℤ (d *ℤ y)) ≡ (a *ℤ (c *ℤ x)) *ℤ ((b *ℤ d) *ℤ y)
product_regrouped a b c d x y = simp ring

product_assoc : (p q r : Frac) → SameValue (true_product (true_product p q) r) (true_product p (true_product q r))
product_assoc p q r = product_regrouped p.numerator p.denominator q.numerator q.denominator r.numerator r.denominator

mul_one : (a : ℤ) → a *ℤ pos 1 ≡ a
mul_one a = omega (arith, ints)

one_mul : (a : ℤ) → pos 1 *ℤ a ≡ a
one_mul a = omega (arith, ints)

zero_mul : (a : ℤ) → pos 0 *ℤ a ≡ pos 0
zero_mul a = omega (arith, ints)

add_zero : (a : ℤ) → a +ℤ pos 0 ≡ a
add_zero a = omega (arith, ints)

zero_add : (a : ℤ) → pos 0 +ℤ a ≡ a
zero_add a = omega (arith, ints)

pub with_zero : (a b : ℤ) → a *ℤ (b *ℤ pos 1) ≡ (a *ℤ pos 1 +ℤ pos 0 *ℤ b) *ℤ b
with_zero a b = simp (mul_one, zero_mul, add_zero)

pub with_one : (a b : ℤ) → a *ℤ (b *ℤ pos 1) ≡ (a *ℤ pos 1) *ℤ b
with_one a b = simp mul_one

pub zero_before : (a b : ℤ) → (pos 0 *ℤ b +ℤ a *ℤ pos 1) *ℤ b ≡ a *ℤ (pos 1 *ℤ b)
zero_before a b = simp (mul_one, one_mul, zero_mul, zero_add)

pub one_before : (a b : ℤ) → (pos 1 *ℤ a) *ℤ b ≡ a *ℤ (pos 1 *ℤ b)
one_before a b = simp one_mul

pub one_positive : pos 0 <ℤ pos 1
one_positive = omega (arith, ints)

pub int_eq_zero : (a : ℤ) → a ≡ pos 0 → int_eq a (pos 0) ≡ true
int_eq_zero a e = ap is_eq (compare_same e)

int_eq_other : (a : ℤ) → ¬ (a ≡ pos 0) → int_eq a (pos 0) ≡ false
int_eq_other a h =
    by_compare a (pos 0)
    (λ l e. ap is_eq e)
    (λ l e. absurd (h l))
    (λ l e. ap is_eq e)

quotient_of_zero : (v w : Frac) → w.numerator ≡ pos 0 → true_quotient v w ≡ whole_frac (pos 0)
quotient_of_zero v w e = ap (λ b. if b then whole_frac (pos 0) else true_product v (inverted w)) (int_eq_zero w.numerator e)

quotient_of_other : (v w : Frac) → ¬ (w.numerator ≡ pos 0) → true_quotient v w ≡ true_product v (inverted w)
quotient_of_other v w h = ap (λ b. if b then whole_frac (pos 0) else true_product v (inverted w)) (int_eq_other w.numerator h)

pub inverted_proper : (w : Frac) → IsProper w → ¬ (w.numerator ≡ pos 0) → IsProper (inverted w)
inverted_proper w h nonzero =
    by_order w.numerator (pos 0)
    (λ l. subst IsProper (sym (inverted_negative w l)) (omega (arith, ints)))
    (λ e. absurd (nonzero e))
    (λ l. subst IsProper (sym (inverted_other w (omega (arith, ints)))) l)

quotient_proper : (v w : Frac) → IsProper v → IsProper w → IsProper (true_quotient v w)
quotient_proper v w hv hw =
    by_zero w.numerator
    (λ e. subst IsProper (sym (quotient_of_zero v w e)) one_positive)
    (λ nonzero. subst IsProper (sym (quotient_of_other v w nonzero)) (mul_positive hv (inverted_proper w hw nonzero)))

power_proper : (v : Frac) (n : ℕ) → IsProper v → IsProper (true_power v n)
unfolding true_power
power_proper v zero h = one_positive
power_proper v (suc n) h = mul_positive (power_proper v n h) h

mutual
  -- the true value has a positive denominator
  pub value_proper : (t : TermTree) (p : NamedPoint) → 0 < p.below → IsProper (value t p)
  value_proper (Number n) p h = omega (arith, ints)
  value_proper (Named x) p h = omega (arith, ints)
  value_proper (Sum ts) p h = sums_proper ts p h
  value_proper (Product ts) p h = products_proper ts p h
  value_proper (Quotient t u) p h = quotient_proper (value t p) (value u p) (value_proper t p h) (value_proper u p h)
  value_proper (Power t n) p h = power_proper (value t p) (unsigned_abs (literal_number n)) (value_proper t p h)
  value_proper (Negative t) p h = value_proper t p h

  sums_proper : (ts : TermTrees) (p : NamedPoint) → 0 < p.below → IsProper (value_of_sum ts p)
  sums_proper none p h = omega (arith, ints)
  sums_proper (also t ts) p h = mul_positive (value_proper t p h) (sums_proper ts p h)

  products_proper : (ts : TermTrees) (p : NamedPoint) → 0 < p.below → IsProper (value_of_product ts p)
  products_proper none p h = omega (arith, ints)
  products_proper (also t ts) p h = mul_positive (value_proper t p h) (products_proper ts p h)

stands_whole : (n : ℤ) → Stands (whole_frac n) (whole_frac n)
stands_whole n = record { proper = one_positive; meant = one_positive; same = refl; in_lowest = whole_lowest n }

-- the same value, put in another way
stands_as : (v w u : Frac) → Stands v w → IsProper u → SameValue w u → Stands v u
stands_as v w u r h e = record { proper = r.proper; meant = h; same = same_value_trans v w u r.meant r.same e; in_lowest = r.in_lowest }

pub stands_sum : (p q r v w : Frac) → Stands p v → Stands q w → sum_step p q ≡ Some r → Stands r (true_sum v w)
stands_sum p q r v w a b e =
    let x = sum_exact p q r a.proper b.proper e in
    record {
      proper = x.proper;
      meant = mul_positive a.meant b.meant;
      same = same_value_trans r (true_sum p q) (true_sum v w) (mul_positive a.proper b.proper) x.value (sum_same p q v w a.same b.same);
      in_lowest = x.lowest_terms;
    }

stands_product : (p q r v w : Frac) → Stands p v → Stands q w → product_step p q ≡ Some r → Stands r (true_product v w)
stands_product p q r v w a b e =
    let x = product_exact p q r a.proper b.proper e in
    record {
      proper = x.proper;
      meant = mul_positive a.meant b.meant;
      same = same_value_trans r (true_product p q) (true_product v w) (mul_positive a.proper b.proper) x.value (product_same p q v w a.same b.same);
      in_lowest = x.lowest_terms;
    }

pub stands_negated : (p v : Frac) → Stands p v → Stands (negated p) (negated v)
stands_negated p v a = record { proper = a.proper; meant = a.meant; same = neg_same p v a.same; in_lowest = gcd_neg _ _ _ a.in_lowest }

-- equal fractions have equal signs
same_negative : (a b x y : ℤ) → pos 0 <ℤ b → pos 0 <ℤ y → a *ℤ y ≡ x *ℤ b → a <ℤ pos 0 → x <ℤ pos 0
same_negative a b x y hb hy e h =
    let left : (a *ℤ y) <ℤ pos 0 = mul_negative h hy in
    by_less x (pos 0) (λ l. l)
    (λ l. let right : pos 0 ≤ℤ (x *ℤ b) = mul_not_negative l (omega (arith, ints)) in absurd (omega (arith, ints)))

pub same_zero : (a b x y : ℤ) → pos 0 <ℤ b → a *ℤ y ≡ x *ℤ b → a ≡ pos 0 → x ≡ pos 0
same_zero a b x y hb e z =
    let f : x *ℤ b ≡ pos 0 = sym e ∙ ap (λ t. t *ℤ y) z ∙ zero_mul y in
    ⊎_elim (λ g. g) (λ (g : b ≡ pos 0). absurd (omega (arith, ints))) (zero_product x b f)

inverted_crossed : (a b x y : ℤ) → a *ℤ y ≡ x *ℤ b → b *ℤ x ≡ y *ℤ a
inverted_crossed a b x y e = simp ring (sym (simp ring at e))

inverted_crossed_negative : (a b x y : ℤ) → a *ℤ y ≡ x *ℤ b → neg_ℤ b *ℤ neg_ℤ x ≡ neg_ℤ y *ℤ neg_ℤ a
inverted_crossed_negative a b x y e = simp ring (omega (arith, ints, simp ring at e))

pub inverted_same : (q w : Frac) → IsProper q → IsProper w → SameValue q w → ¬ (q.numerator ≡ pos 0) → SameValue (inverted q) (inverted w)
inverted_same q w hq hw e nonzero =
    let a = q.numerator in let b = q.denominator in let x = w.numerator in let y = w.denominator in
    by_order a (pos 0)
    (λ l. subst (λ (p : Frac). SameValue p (inverted w)) (sym (inverted_negative q l))
    (subst (λ (p : Frac). SameValue (record { numerator = neg_ℤ b; denominator = neg_ℤ a }) p) (sym (inverted_negative w (same_negative a b x y hq hw e l))) (inverted_crossed_negative a b x y e)))
    (λ z. absurd (nonzero z))
    (λ l.
    let more : pos 0 ≤ℤ x = by_less x (pos 0) (λ (k : x <ℤ pos 0). let back : a <ℤ pos 0 = same_negative x y a b hw hq (sym e) k in absurd (omega (arith, ints))) (λ k. k) in
    subst (λ (p : Frac). SameValue p (inverted w)) (sym (inverted_other q (omega (arith, ints))))
    (subst (λ (p : Frac). SameValue (record { numerator = b; denominator = a }) p) (sym (inverted_other w more)) (inverted_crossed a b x y e)))

stands_inverted : (q w : Frac) → Stands q w → ¬ (q.numerator ≡ pos 0) → Stands (inverted q) (inverted w)
stands_inverted q w s nonzero =
    let other : ¬ (w.numerator ≡ pos 0) = λ z. nonzero (same_zero w.numerator w.denominator q.numerator q.denominator s.meant (sym s.same) z) in
    record { proper = inverted_proper q s.proper nonzero; meant = inverted_proper w s.meant other; same = inverted_same q w s.proper s.meant s.same nonzero; in_lowest = inverted_lowest q s.in_lowest }

-- the step of a quotient, where the divisor is not 0
quotient_ok : (q w r : Frac) → quotient_step q w ≡ Ok r → (¬ (w.numerator ≡ pos 0)) × (product_step q (inverted w) ≡ Some r)
quotient_ok q w r e =
    by_zero w.numerator
    (λ z. let f = ap (λ b. if b then Err ZeroDivisor else stepped (product_step q (inverted w))) (int_eq_zero w.numerator z) in let g = sym f ∙ e in absurd (cc))
    (λ nonzero. let f = ap (λ b. if b then Err ZeroDivisor else stepped (product_step q (inverted w))) (int_eq_other w.numerator nonzero) in (nonzero, stepped_ok _ _ (sym f ∙ e)))

stands_quotient : (p q r v w : Frac) → Stands p v → Stands q w → quotient_step p q ≡ Ok r → Stands r (true_quotient v w)
stands_quotient p q r v w a b e =
    let k = quotient_ok p q r e in
    let other : ¬ (w.numerator ≡ pos 0) = λ z. k.0 (same_zero w.numerator w.denominator q.numerator q.denominator b.meant (sym b.same) z) in
    subst (Stands r) (sym (quotient_of_other v w other)) (stands_product p (inverted q) r v (inverted w) a (stands_inverted q w b k.0) k.1)

power_same : (p v : Frac) (n : ℕ) → SameValue p v → SameValue (true_power p n) (true_power v n)
unfolding true_power
power_same p v zero e = refl
power_same p v (suc n) e = product_same (true_power p n) p (true_power v n) v (power_same p v n e) e

power_exact : (p r : Frac) (n : ℕ) → IsProper p → power_steps p n ≡ Some r → IsExactPower p n r
power_exact p r n hp e = power_outcome p n (Some r) hp (sym e)

stands_power : (p r v : Frac) (n : Literal) → Stands p v → power_step p n ≡ Ok r → Stands r (true_power v (unsigned_abs (literal_number n)))
stands_power p r v (Fits n) a e =
    let k = unsigned_abs n in
    let x = power_exact p r k a.proper (stepped_ok _ _ e) in
    record {
      proper = x.proper;
      meant = power_proper v k a.meant;
      same = same_value_trans r (true_power p k) (true_power v k) (power_proper p k a.proper) x.value (power_same p v k a.same);
      in_lowest = x.lowest_terms;
    }
stands_power p r v Past a e = absurd (cc)

mutual
  -- what is calculated for a term stands for its value
  pub calculated_stands : (t : TermTree) (p : NamedPoint) (v : Frac) → 0 < p.below → calculated t p ≡ Ok v → Stands v (value t p)
  calculated_stands (Number (Fits n)) p v h e = subst (λ w. Stands w (whole_frac n)) (ok_same _ _ e) (stands_whole n)
  calculated_stands (Number Past) p v h e = absurd (cc)
  calculated_stands (Named x) p v h e =
      let b : pos 0 <ℤ pos p.below = omega (arith, ints) in
      subst (λ w. Stands w (value (Named x) p)) (ok_same _ _ e)
      (record { proper = lowest_proper (p.at x) (pos p.below) b; meant = b; same = lowest_value (p.at x) (pos p.below) b; in_lowest = lowest_is (p.at x) (pos p.below) b })
  calculated_stands (Sum ts) p v h e =
      let w = value_of_sum ts p in
      stands_as v (true_sum (whole_frac (pos 0)) w) w (added_stands ts p (whole_frac (pos 0)) (whole_frac (pos 0)) v h (stands_whole (pos 0)) e) (sums_proper ts p h)
      (zero_before w.numerator w.denominator)
  calculated_stands (Product ts) p v h e =
      let w = value_of_product ts p in
      stands_as v (true_product (whole_frac (pos 1)) w) w (multiplied_stands ts p (whole_frac (pos 1)) (whole_frac (pos 1)) v h (stands_whole (pos 1)) e) (products_proper ts p h)
      (one_before w.numerator w.denominator)
  calculated_stands (Quotient t u) p v h e =
      let a = bind_ok (calculated t p) (λ x. calculated u p >>= λ y. quotient_step x y) v e in
      let b = bind_ok (calculated u p) (λ y. quotient_step a.0 y) v a.2 in
      stands_quotient a.0 b.0 v (value t p) (value u p) (calculated_stands t p a.0 h a.1) (calculated_stands u p b.0 h b.1) b.2
  calculated_stands (Power t n) p v h e =
      let b = bind_ok (calculated t p) (λ w. power_step w n) v e in
      stands_power b.0 v (value t p) n (calculated_stands t p b.0 h b.1) b.2
  calculated_stands (Negative t) p v h e =
      let b = bind_ok (calculated t p) (λ w. Ok (negated w)) v e in
      subst (λ w. Stands w (negated (value t p))) (ok_same _ _ b.2) (stands_negated b.0 (value t p) (calculated_stands t p b.0 h b.1))

  added_stands : (ts : TermTrees) (p : NamedPoint) (total w v : Frac) → 0 < p.below → Stands total w → added total ts p ≡ Ok v → Stands v (true_sum w (value_of_sum ts p))
  added_stands none p total w v h r e =
      subst (λ x. Stands x (true_sum w (whole_frac (pos 0)))) (ok_same _ _ e)
      (stands_as total w (true_sum w (whole_frac (pos 0))) r (mul_positive r.meant one_positive) (with_zero w.numerator w.denominator))
  added_stands (also t ts) p total w v h r e =
      let b = bind_ok (calculated t p) (λ a. stepped (sum_step total a) >>= λ sum. added sum ts p) v e in
      let d = bind_ok (stepped (sum_step total b.0)) (λ sum. added sum ts p) v b.2 in
      let here = calculated_stands t p b.0 h b.1 in
      let next = stands_sum total b.0 d.0 w (value t p) r here (stepped_ok _ _ d.1) in
      let rest = added_stands ts p d.0 (true_sum w (value t p)) v h next d.2 in
      stands_as v (true_sum (true_sum w (value t p)) (value_of_sum ts p)) (true_sum w (true_sum (value t p) (value_of_sum ts p))) rest
      (mul_positive r.meant (mul_positive here.meant (sums_proper ts p h))) (sum_assoc w (value t p) (value_of_sum ts p))

  multiplied_stands : (ts : TermTrees) (p : NamedPoint) (total w v : Frac) → 0 < p.below → Stands total w → multiplied total ts p ≡ Ok v → Stands v (true_product w (value_of_product ts p))
  multiplied_stands none p total w v h r e =
      subst (λ x. Stands x (true_product w (whole_frac (pos 1)))) (ok_same _ _ e)
      (stands_as total w (true_product w (whole_frac (pos 1))) r (mul_positive r.meant one_positive) (with_one w.numerator w.denominator))
  multiplied_stands (also t ts) p total w v h r e =
      let b = bind_ok (calculated t p) (λ a. stepped (product_step total a) >>= λ product. multiplied product ts p) v e in
      let d = bind_ok (stepped (product_step total b.0)) (λ product. multiplied product ts p) v b.2 in
      let here = calculated_stands t p b.0 h b.1 in
      let next = stands_product total b.0 d.0 w (value t p) r here (stepped_ok _ _ d.1) in
      let rest = multiplied_stands ts p d.0 (true_product w (value t p)) v h next d.2 in
      stands_as v (true_product (true_product w (value t p)) (value_of_product ts p)) (true_product w (true_product (value t p) (value_of_product ts p))) rest
      (mul_positive r.meant (mul_positive here.meant (products_proper ts p h))) (product_assoc w (value t p) (value_of_product ts p))

pub below_positive : (d : ℤ) → pos 0 <ℤ d → 0 < unsigned_abs d
below_positive d h = omega (arith, ints)

-- what the code gives for a term stands for its value
pub evaluated_stands : (t : TermTree) (q : Numbers) (r : Result Fraction EvalError) → Evaluates r (calculated t (point_of q))
    → IfOk r (λ v. Stands (frac_of v) (value t (point_of q)))
evaluated_stands t q (Ok v) e = calculated_stands t (point_of q) (frac_of v) (below_positive q.denominator q.positive) e
evaluated_stands t q (Err d) e = tt
