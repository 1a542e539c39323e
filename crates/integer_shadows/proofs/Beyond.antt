-- A number of a class that is beyond all bounds.
use Rattle.std.proofs.Common.{◌≡◌, ℕ, ◌+◌, List, [], ◌∷◌, sym, ◌∙◌, subst, arith, unsigned_abs}
use Rattle.std.proofs.Math.IntN.{ℤ, pos, neg_ℤ, ◌+ℤ◌, ◌*ℤ◌}
use Rattle.std.specs.Prelude.{◌≤ℤ◌, ◌<ℤ◌}
use Rattle.std.proofs.lemmas.Int.{ints}
use Rattle.exact_numbers.specs.Divides.{Divides}
use Rattle.exact_numbers.proofs.Ring.{neg_mul, mul_neg}
use Rattle.exact_numbers.proofs.Order.{by_order, at_most_mul}
use Rattle.elimination_theory.proofs.MoreArithmetic.{at_most_abs, at_least_neg_abs}
use Rattle.logic_meaning.specs.Point.{Point}
use Rattle.logic_meaning.specs.Form.{Form, value, coefficient, without}
use Rattle.logic_meaning.specs.Some.{EachOf}
use Rattle.integer_shadows.specs.Sides.{AreAtLeast, AreNonzero}
use Rattle.integer_shadows.proofs.Moved.{moved, line}
use Rattle.integer_shadows.proofs.Between.{same_class}

-- from some number on
pub record Far (P : ℤ → Type 0) : Type 0 where
  pub from : ℕ
  pub holds : (n : ℤ) → pos from ≤ℤ n → P n

positive_far : (c t n : ℤ) → pos 0 <ℤ c → pos (unsigned_abs t + 1) ≤ℤ n → pos 0 <ℤ (c *ℤ n +ℤ t)
positive_far c t n hc h =
    let a = at_least_neg_abs t in
    let m : n ≤ℤ (c *ℤ n) = at_most_mul hc (omega (arith, ints)) in
    omega (arith, ints)

negative_far : (c t n : ℤ) → c <ℤ pos 0 → pos (unsigned_abs t + 1) ≤ℤ n → (c *ℤ n +ℤ t) <ℤ pos 0
negative_far c t n hc h =
    let a = at_most_abs t in
    let hd : pos 0 <ℤ neg_ℤ c = omega (arith, ints) in
    let m : n ≤ℤ (neg_ℤ c *ℤ n) = at_most_mul hd (omega (arith, ints)) in
    let e = neg_mul c n in
    omega (arith, ints)

nonzero_far : (c t n : ℤ) → ¬ (c ≡ pos 0) → pos (unsigned_abs t + 1) ≤ℤ n → ¬ (c *ℤ n +ℤ t ≡ pos 0)
nonzero_far c t n hc h z =
    by_order c (pos 0)
    (λ low. let g = negative_far c t n low h in omega (arith, ints))
    (λ e. hc e)
    (λ high. let g = positive_far c t n high h in omega (arith, ints))

-- both of two
both_far : {P Q : ℤ → Type 0} → Far P → Far Q → Far (λ n. P n × Q n)
both_far f g = record { from = f.from + g.from; holds = λ n h. (f.holds n (omega (arith, ints)), g.holds n (omega (arith, ints))) }

each_far : (P : ℤ → Form → Type 0) (Q : Form → Type 0) → ((f : Form) → Q f → Far (λ n. P n f)) → (fs : List Form) → EachOf Q fs → Far (λ n. EachOf (P n) fs)
each_far P Q one [] h = record { from = 0; holds = λ n e. tt }
each_far P Q one (f ∷ fs) h = both_far (one f h.0) (each_far P Q one fs h.1)

module _ (x : ℕ) (p : Point ℕ) where
  -- ---- upwards

  lower_far : (f : Form) → pos 0 <ℤ coefficient x f → Far (λ n. pos 0 ≤ℤ value f (moved x p n))
  lower_far f h = record {
    from = unsigned_abs (value (without x f) p) + 1;
    holds = λ n e. let s = line x p n f in let g = positive_far (coefficient x f) (value (without x f) p) n h e in omega (arith, ints);
  }

  differs_far : (f : Form) → ¬ (coefficient x f ≡ pos 0) → Far (λ n. ¬ (value f (moved x p n) ≡ pos 0))
  differs_far f h = record {
    from = unsigned_abs (value (without x f) p) + 1;
    holds = λ n e z. nonzero_far (coefficient x f) (value (without x f) p) n h e (sym (line x p n f) ∙ z);
  }

  -- ---- downwards

  down : (c n t : ℤ) → c *ℤ neg_ℤ n +ℤ t ≡ neg_ℤ c *ℤ n +ℤ t
  down c n t = let e = mul_neg c n in let g = neg_mul c n in omega (arith, ints)

  upper_far : (f : Form) → coefficient x f <ℤ pos 0 → Far (λ n. pos 0 ≤ℤ value f (moved x p (neg_ℤ n)))
  upper_far f h = record {
    from = unsigned_abs (value (without x f) p) + 1;
    holds = λ n e.
        let s = line x p (neg_ℤ n) f in let d = down (coefficient x f) n (value (without x f) p) in
        let g = positive_far (neg_ℤ (coefficient x f)) (value (without x f) p) n (omega (arith, ints)) e in omega (arith, ints);
  }

  differs_down : (f : Form) → ¬ (coefficient x f ≡ pos 0) → Far (λ n. ¬ (value f (moved x p (neg_ℤ n)) ≡ pos 0))
  differs_down f h = record {
    from = unsigned_abs (value (without x f) p) + 1;
    holds = λ n e z.
        nonzero_far (neg_ℤ (coefficient x f)) (value (without x f) p) n (λ k. h (omega (arith, ints))) e
        (sym (down (coefficient x f) n (value (without x f) p)) ∙ sym (line x p (neg_ℤ n) f) ∙ z);
  }

  -- ---- a number of the class

  module _ (n c r m k : ℤ) (hm : pos 0 <ℤ m) (d : Divides n (c *ℤ m)) (h : Divides n (c *ℤ k +ℤ r)) where
    -- a number of the class that meets the bounds and makes no form 0
    pub record Beyond (bs ds : List Form) : Type 0 where
      pub at : ℤ
      pub in_class : Divides n (c *ℤ at +ℤ r)
      pub meets : AreAtLeast bs (moved x p at)
      pub differs : AreNonzero ds (moved x p at)

    far_up : (from : ℕ) → pos from ≤ℤ (k +ℤ m *ℤ pos (unsigned_abs k + from))
    far_up from =
        let a = at_least_neg_abs k in
        let g : pos (unsigned_abs k + from) ≤ℤ (m *ℤ pos (unsigned_abs k + from)) = at_most_mul hm (omega (arith, ints)) in
        omega (arith, ints)

    far_down : (from : ℕ) → pos from ≤ℤ neg_ℤ (k +ℤ m *ℤ neg_ℤ (pos (unsigned_abs k + from)))
    far_down from =
        let a = at_most_abs k in
        let e = mul_neg m (pos (unsigned_abs k + from)) in
        let g : pos (unsigned_abs k + from) ≤ℤ (m *ℤ pos (unsigned_abs k + from)) = at_most_mul hm (omega (arith, ints)) in
        omega (arith, ints)

    pub above_all : (ls ds : List Form) → EachOf (λ (f : Form). pos 0 <ℤ coefficient x f) ls → EachOf (λ (f : Form). ¬ (coefficient x f ≡ pos 0)) ds → Beyond ls ds
    above_all ls ds hl hd =
        let f = both_far
        (each_far (λ n f. pos 0 ≤ℤ value f (moved x p n)) (λ f. pos 0 <ℤ coefficient x f) lower_far ls hl)
        (each_far (λ n f. ¬ (value f (moved x p n) ≡ pos 0)) (λ f. ¬ (coefficient x f ≡ pos 0)) differs_far ds hd) in
        let j = pos (unsigned_abs k + f.from) in
        let g = f.holds (k +ℤ m *ℤ j) (far_up f.from) in
        record { at = k +ℤ m *ℤ j; in_class = same_class n c r k m j d h; meets = g.0; differs = g.1 }

    minus_twice : (z : ℤ) → neg_ℤ (neg_ℤ z) ≡ z
    minus_twice z = omega (arith, ints)

    pub below_all : (us ds : List Form) → EachOf (λ (f : Form). coefficient x f <ℤ pos 0) us → EachOf (λ (f : Form). ¬ (coefficient x f ≡ pos 0)) ds → Beyond us ds
    below_all us ds hu hd =
        let f = both_far
        (each_far (λ n f. pos 0 ≤ℤ value f (moved x p (neg_ℤ n))) (λ f. coefficient x f <ℤ pos 0) upper_far us hu)
        (each_far (λ n f. ¬ (value f (moved x p (neg_ℤ n)) ≡ pos 0)) (λ f. ¬ (coefficient x f ≡ pos 0)) differs_down ds hd) in
        let j = neg_ℤ (pos (unsigned_abs k + f.from)) in
        let at = k +ℤ m *ℤ j in
        let g = f.holds (neg_ℤ at) (far_down f.from) in
        let e = minus_twice at in
        record {
          at = at;
          in_class = same_class n c r k m j d h;
          meets = subst (λ z. AreAtLeast us (moved x p z)) e g.0;
          differs = subst (λ z. AreNonzero ds (moved x p z)) e g.1;
        }
