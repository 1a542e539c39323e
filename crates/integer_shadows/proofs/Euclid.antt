-- Euclid's steps on two congruences of one modulus.
use Rattle.std.proofs.Common.{◌≡◌, ℕ, ◌<◌, ◌↔◌, sym, ap, ◌∙◌, subst, arith, unsigned_abs}
use Rattle.std.proofs.Math.IntN.{ℤ, pos, negsuc, neg_ℤ, ◌+ℤ◌, ◌-ℤ◌, ◌*ℤ◌}
use Rattle.std.specs.Prelude.{◌≤ℤ◌, ◌<ℤ◌, int_div}
use Rattle.std.proofs.lemmas.Int.{ints}
use Rattle.exact_numbers.specs.Limit.{InLimit}
use Rattle.exact_numbers.specs.Divides.{Divides, residue_of}
use Rattle.exact_numbers.specs.Division.{IsFloor}
use Rattle.exact_numbers.proofs.Ring.{ring, one_mul, zero_mul, mul_zero, neg_mul, mul_comm}
use Rattle.exact_numbers.proofs.Order.{by_less, at_most_mul, factor_positive}
use Rattle.exact_numbers.proofs.Divisibility.{divides_along, divides_add, divides_sub, divides_mul_left, mul_divides_mul, cancel_divides}
use Rattle.exact_numbers.proofs.Floor.{residue_not_negative, residue_below}
use Rattle.exact_numbers.proofs.LeastMultiple.{exact_div}
use Rattle.logic_meaning.specs.Point.{Point}
use Rattle.logic_meaning.specs.Form.{Form, value, coefficient}
use Rattle.linear_forms.specs.Combinations.{IsLinear}
use Rattle.linear_forms.proofs.Residues.{residue_stays}
use Rattle.integer_shadows.specs.declared.congruences.Split.{Split}
use Rattle.integer_shadows.specs.Forms.{IsReduction}
use Rattle.integer_shadows.specs.Sides.{IsModulus, DividesBoth, AreMerged}

-- the two last congruences say what the two first do, with their names
pub record AreSteps (m : ℤ) (f g c r : Form) : Type 0 where
  pub others_in_class : (y : ℕ) → coefficient y f ≡ pos 0 → coefficient y g ≡ pos 0 → coefficient y c ≡ pos 0
  pub others_in_rest : (y : ℕ) → coefficient y f ≡ pos 0 → coefficient y g ≡ pos 0 → coefficient y r ≡ pos 0
  pub truth : (p : Point ℕ) → DividesBoth m f m g p ↔ DividesBoth m c m r p

pub steps_start : (m : ℤ) (f g : Form) → AreSteps m f g f g
steps_start m f g = record { others_in_class = λ y e i. e; others_in_rest = λ y e i. i; truth = λ p. (λ d. d, λ d. d) }

-- ---- numbers

divides_step : (m q c r n : ℤ) → Divides m ((pos 1 *ℤ c +ℤ neg_ℤ q *ℤ r) -ℤ n) → (Divides m c × Divides m r) ↔ (Divides m r × Divides m n)
divides_step m q c r n h =
    let s = pos 1 *ℤ c +ℤ neg_ℤ q *ℤ r in
    let e : s -ℤ (s -ℤ n) ≡ n = omega (arith, ints) in
    let i : ((s -ℤ n) +ℤ n) -ℤ neg_ℤ q *ℤ r ≡ c = let o = one_mul c in omega (arith, ints) in (
      λ d. (d.1, divides_along e (divides_sub (divides_add (divides_mul_left (pos 1) d.0) (divides_mul_left (neg_ℤ q) d.1)) h)),
      λ d. (divides_along i (divides_sub (divides_add h d.1) (divides_mul_left (neg_ℤ q) d.0)), d.0),
    )

zero_residue : (m a b : ℤ) → pos 0 <ℤ m → (u v : ℤ) → u ≡ pos 0 → v ≡ pos 0 → residue_of (a *ℤ u +ℤ b *ℤ v) m ≡ pos 0
zero_residue m a b h u v e i =
    let k = ap (λ z. a *ℤ z) e in let l = ap (λ z. b *ℤ z) i in let o = mul_zero a in let n = mul_zero b in
    let z : a *ℤ u +ℤ b *ℤ v ≡ pos 0 = omega (arith, ints) in
    ap (λ w. residue_of w m) z ∙ residue_stays m h (pos 0) (omega (arith, ints)) h

residue_at_most : (v m : ℤ) → pos 0 <ℤ m → pos 0 ≤ℤ v → residue_of v m ≤ℤ v
residue_at_most v m hm hv =
    by_less v m
    (λ low. let e = residue_stays m hm v hv low in omega (arith, ints))
    (λ high. let b = residue_below v m hm in omega (arith, ints))

abs_less : (a b : ℤ) → pos 0 ≤ℤ a → a <ℤ b → unsigned_abs a < unsigned_abs b
abs_less (pos n) (pos k) h l = omega (arith, ints)
abs_less (pos n) (negsuc k) h l = absurd (omega (arith, ints))
abs_less (negsuc n) b h l = absurd (omega (arith, ints))

left_over : (a b q : ℤ) → IsFloor a b q → (pos 0 ≤ℤ (pos 1 *ℤ a +ℤ neg_ℤ q *ℤ b)) × ((pos 1 *ℤ a +ℤ neg_ℤ q *ℤ b) <ℤ b)
left_over a b q f =
    let o = one_mul a in let n : neg_ℤ q *ℤ b ≡ neg_ℤ (b *ℤ q) = neg_mul q b ∙ ap neg_ℤ (mul_comm q b) in
    let d : b *ℤ (q +ℤ pos 1) ≡ b *ℤ q +ℤ b = simp ring (omega (arith, ints)) in
    let l = f.below in let h = f.above in
    (omega (arith, ints), omega (arith, ints))

pub smaller : (m a b q n : ℤ) → pos 0 <ℤ m → IsFloor a b q → n ≡ residue_of (pos 1 *ℤ a +ℤ neg_ℤ q *ℤ b) m → unsigned_abs n < unsigned_abs b
smaller m a b q n hm f e =
    let v = pos 1 *ℤ a +ℤ neg_ℤ q *ℤ b in
    let w = left_over a b q f in
    let r = residue_at_most v m hm w.0 in
    let z = residue_not_negative v m in
    abs_less n b (omega (arith, ints)) (let y = w.1 in omega (arith, ints))

not_below : (a b q : ℤ) → pos 0 ≤ℤ a → pos 0 <ℤ b → a <ℤ (b *ℤ (q +ℤ pos 1)) → pos 0 <ℤ (q +ℤ pos 1)
not_below a b q ha hb h = factor_positive hb (omega (arith, ints))

at_most_within : (q a : ℤ) → pos 0 ≤ℤ q → q ≤ℤ a → InLimit a → InLimit q
at_most_within (pos n) (pos k) h l w = omega (arith, ints)
at_most_within (pos n) (negsuc k) h l w = absurd (omega (arith, ints))
at_most_within (negsuc n) a h l w = absurd (omega (arith, ints))

-- the quotient of numbers that are not negative is within the limit where the first number is
pub quotient_within : (a b q : ℤ) → pos 0 ≤ℤ a → pos 0 <ℤ b → IsFloor a b q → InLimit a → InLimit q
quotient_within a b q ha hb f l =
    let z = not_below a b q ha hb f.above in
    let low : pos 0 ≤ℤ q = omega (arith, ints) in
    let m : q ≤ℤ (b *ℤ q) = at_most_mul hb low in
    let g = f.below in
    at_most_within q a low (omega (arith, ints)) l

-- ---- one step

pub step_more : (m q : ℤ) (f g c r n : Form) → pos 0 <ℤ m → IsReduction (pos 1) c (neg_ℤ q) r m n → AreSteps m f g c r → AreSteps m f g r n
step_more m q f g c r n hm h s = record {
  others_in_class = s.others_in_rest;
  others_in_rest = λ y e i. h.coefficients y ∙ zero_residue m (pos 1) (neg_ℤ q) hm (coefficient y c) (coefficient y r) (s.others_in_class y e i) (s.others_in_rest y e i);
  truth = λ p.
      let a = s.truth p in let b = divides_step m q (value c p) (value r p) (value n p) (h.values p) in
      (λ d. b.0 (a.0 d), λ d. a.1 (b.1 d));
}

pub split_of : (x : ℕ) (m : ℤ) (f g c r : Form) → IsModulus m → IsLinear r → coefficient x r ≡ pos 0 → AreSteps m f g c r → AreMerged x m f m g (record { modulus = m; class = c; condition = r })
split_of x m f g c r hm l z s = record {
  modulus = hm;
  condition = l;
  gone = z;
  others_in_class = s.others_in_class;
  others_in_condition = s.others_in_rest;
  truth = s.truth;
}

-- ---- one modulus

times_number : (k v : ℤ) → k *ℤ v +ℤ pos 0 *ℤ v ≡ k *ℤ v
times_number k v = let z = zero_mul v in omega (arith, ints)

raised_divides : (m n k v r : ℤ) → ¬ (k ≡ pos 0) → k *ℤ m ≡ n → Divides n ((k *ℤ v +ℤ pos 0 *ℤ v) -ℤ r) → Divides n r ↔ Divides m v
raised_divides m n k v r hk e h =
    let s = k *ℤ v +ℤ pos 0 *ℤ v in
    let t = times_number k v in
    let down : s -ℤ (s -ℤ r) ≡ r = omega (arith, ints) in
    let up : (s -ℤ r) +ℤ r ≡ k *ℤ v = omega (arith, ints) in (
      λ d. cancel_divides k hk (subst (λ z. Divides z (k *ℤ v)) (sym e) (divides_along up (divides_add h d))),
      λ d. divides_along down (divides_sub (divides_along (sym t) (subst (λ z. Divides z (k *ℤ v)) e (mul_divides_mul k d))) h),
    )

factor_nonzero : (m k n : ℤ) → pos 0 <ℤ n → k *ℤ m ≡ n → ¬ (k ≡ pos 0)
factor_nonzero m k n h e z = let i = ap (λ w. w *ℤ m) z in let o = zero_mul m in omega (arith, ints)

-- a congruence with another modulus
pub record IsRaisedTo (m : ℤ) (f : Form) (n : ℤ) (r : Form) : Type 0 where
  pub others : (y : ℕ) → coefficient y f ≡ pos 0 → coefficient y r ≡ pos 0
  pub truth : (p : Point ℕ) → Divides n (value r p) ↔ Divides m (value f p)

pub raised_to : (m n k : ℤ) (f r : Form) → pos 0 <ℤ n → k *ℤ m ≡ n → IsReduction k f (pos 0) f n r → IsRaisedTo m f n r
raised_to m n k f r hn e h = record {
  others = λ y z. h.coefficients y ∙ zero_residue n k (pos 0) hn (coefficient y f) (coefficient y f) z z;
  truth = λ p. raised_divides m n k (value f p) (value r p) (factor_nonzero m k n hn e) e (h.values p);
}

pub factor_is : (d n : ℤ) → pos 0 <ℤ d → Divides d n → int_div n d *ℤ d ≡ n
factor_is d n h e = mul_comm (int_div n d) d ∙ exact_div d n (λ (z : d ≡ pos 0). omega (arith, ints)) e

pub reduction_positive : (a b m : ℤ) (f g r : Form) (x : ℕ) → IsReduction a f b g m r → pos 0 ≤ℤ coefficient x r
reduction_positive a b m f g r x h = subst (λ z. pos 0 ≤ℤ z) (sym (h.coefficients x)) (residue_not_negative _ m)

pub merged_of : (x : ℕ) (m n k : ℤ) (f g c r : Form) (s : Split) → IsRaisedTo m f k c → IsRaisedTo n g k r → AreMerged x k c k r s → AreMerged x m f n g s
merged_of x m n k f g c r s hf hg h = record {
  modulus = h.modulus;
  condition = h.condition;
  gone = h.gone;
  others_in_class = λ y e i. h.others_in_class y (hf.others y e) (hg.others y i);
  others_in_condition = λ y e i. h.others_in_condition y (hf.others y e) (hg.others y i);
  truth = λ p.
      let a = hf.truth p in let b = hg.truth p in let d = h.truth p in
      (λ t. d.0 (a.1 t.0, b.1 t.1), λ t. let u = d.1 t in (a.0 u.0, b.0 u.1));
}

-- the next two congruences, with their coefficients of the name
pub record IsNext (x : ℕ) (m : ℤ) (f g r n : Form) : Type 0 where
  pub smaller : unsigned_abs (coefficient x n) < unsigned_abs (coefficient x r)
  pub not_negative : pos 0 ≤ℤ coefficient x n
  pub linear : IsLinear n
  pub same : AreSteps m f g r n

pub next : (x : ℕ) (m q k : ℤ) (f g c r n : Form) (a b : ℤ) → pos 0 <ℤ m → a ≡ coefficient x c → b ≡ coefficient x r → IsFloor a b q → k ≡ neg_ℤ q → IsReduction (pos 1) c k r m n → AreSteps m f g c r → IsNext x m f g r n
next x m q k f g c r n a b hm ea eb fl ek h s =
    let red : IsReduction (pos 1) c (neg_ℤ q) r m n = subst (λ z. IsReduction (pos 1) c z r m n) ek h in
    let e : coefficient x n ≡ residue_of (pos 1 *ℤ a +ℤ neg_ℤ q *ℤ b) m = red.coefficients x ∙ (λ i. residue_of (pos 1 *ℤ (sym ea) i +ℤ neg_ℤ q *ℤ (sym eb) i) m) in
    record {
      smaller = subst (λ z. unsigned_abs (coefficient x n) < unsigned_abs z) eb (smaller m a b q (coefficient x n) hm fl e);
      not_negative = reduction_positive (pos 1) k m c r n x h;
      linear = h.linear;
      same = step_more m q f g c r n hm red s;
    }
