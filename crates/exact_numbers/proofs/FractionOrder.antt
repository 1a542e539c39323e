-- How fractions over positive denominators compare: by their floors, and then by what remains, upside down.
use Rattle.std.proofs.Common.{◌≡◌, ◌⊎◌, inl, inr, ap, sym, ◌∙◌, subst, arith, Less, Equal, Greater, int_cmp}
use Rattle.std.proofs.Math.IntN.{ℤ, pos, ◌+ℤ◌, ◌-ℤ◌, ◌*ℤ◌}
use Rattle.std.specs.Prelude.{◌<ℤ◌, ◌≤ℤ◌}
use Rattle.std.proofs.lemmas.Int.{ints}
use Rattle.exact_numbers.specs.Divides.{floor_of, residue_of}
use Rattle.exact_numbers.proofs.Floor.{floor_and_residue, residue_not_negative, residue_below}
use Rattle.exact_numbers.proofs.Ring.{ring, mul_comm, mul_left_comm, mul_add, mul_one, zero_mul}
use Rattle.exact_numbers.proofs.Order.{by_order, by_compare, mul_less, mul_at_most, mul_positive, compare_less, compare_same, compare_more, compare_sub}

-- p ≤ a / b < p + 1, by the floor p and what remains
pub record IsSplit (a b p r : ℤ) : Type 0 where
  pub positive : pos 0 <ℤ b
  pub whole : b *ℤ p +ℤ r ≡ a
  pub not_negative : pos 0 ≤ℤ r
  pub below : r <ℤ b

pub split_by : (a b p r : ℤ) → pos 0 <ℤ b → p ≡ floor_of a b → r ≡ residue_of a b → IsSplit a b p r
split_by a b p r h ep er =
    let w = floor_and_residue a b h in let n = residue_not_negative a b in let m = residue_below a b h in
    let e = ap (λ z. b *ℤ z) ep in
    record { positive = h; whole = omega (arith, ints, w, e, er); not_negative = omega (arith, ints, n, er); below = omega (arith, ints, m, er) }

below_by_floor : {a b c d p q r s : ℤ} → IsSplit a b p r → IsSplit c d q s → p <ℤ q → (a *ℤ d) <ℤ (c *ℤ b)
below_by_floor {a} {b} {c} {d} {p} {q} {r} {s} f g h =
    let bp = f.positive in let dp = g.positive in
    let bn : pos 0 ≤ℤ b = omega (arith, ints) in
    let next : (p +ℤ pos 1) ≤ℤ q = omega (arith, ints) in
    let m = mul_at_most b bn next in
    let e = mul_add b p (pos 1) in let o = mul_one b in
    let below : a <ℤ (b *ℤ q) = omega (arith, ints, f.whole, f.below) in
    let x = mul_less d dp below in
    let above : (d *ℤ q) ≤ℤ c = omega (arith, ints, g.whole, g.not_negative) in
    let y = mul_at_most b bn above in
    let t = mul_left_comm b d q in let u = mul_comm a d in let v = mul_comm c b in
    omega (arith, ints)

pub compare_by_floor : {a b c d p q r s : ℤ} → IsSplit a b p r → IsSplit c d q s → ¬ (int_cmp p q ≡ Equal) → int_cmp p q ≡ int_cmp (a *ℤ d) (c *ℤ b)
compare_by_floor {p = p} {q = q} f g n =
    by_compare p q
    (λ h e. e ∙ sym (compare_less (below_by_floor f g h)))
    (λ h e. absurd (n e))
    (λ h e. e ∙ sym (compare_more (below_by_floor g f h)))

-- the whole parts cancel
same_difference : (a b c d p r s : ℤ) → b *ℤ p +ℤ r ≡ a → d *ℤ p +ℤ s ≡ c → a *ℤ d -ℤ c *ℤ b ≡ r *ℤ d -ℤ s *ℤ b
same_difference a b c d p r s e f =
    let x = simp ring at (ap (λ z. z *ℤ d) e) in
    let y = simp ring at (ap (λ z. z *ℤ b) f) in
    simp ring (omega (arith, ints, x, y))

pub compare_rests : {a b c d p q r s : ℤ} → IsSplit a b p r → IsSplit c d q s → int_cmp p q ≡ Equal → int_cmp (a *ℤ d) (c *ℤ b) ≡ int_cmp (r *ℤ d) (s *ℤ b)
compare_rests {a} {b} {c} {d} {p} {q} {r} {s} f g e =
    let same : p ≡ q = by_compare p q (λ h k. let x : Less ≡ Equal = sym k ∙ e in absurd (cc)) (λ h k. h) (λ h k. let x : Greater ≡ Equal = sym k ∙ e in absurd (cc)) in
    let w = subst (λ (z : ℤ). d *ℤ z +ℤ s ≡ c) (sym same) g.whole in
    sym (compare_sub (a *ℤ d) (c *ℤ b)) ∙ ap (λ z. int_cmp z (pos 0)) (same_difference a b c d p r s f.whole w) ∙ compare_sub (r *ℤ d) (s *ℤ b)

scaled_up : (r s b d : ℤ) → pos 0 <ℤ b → pos 0 ≤ℤ s → r ≡ pos 0 → int_cmp r s ≡ int_cmp (r *ℤ d) (s *ℤ b)
scaled_up r s b d bp sn z =
    let e = ap (λ x. x *ℤ d) z in let f = zero_mul d in
    by_order (pos 0) s
    (λ (h : pos 0 <ℤ s).
    let m = mul_positive h bp in
    let l : r <ℤ s = omega (arith, ints) in let k : (r *ℤ d) <ℤ (s *ℤ b) = omega (arith, ints) in
    compare_less l ∙ sym (compare_less k))
    (λ (h : pos 0 ≡ s).
    let g = ap (λ x. x *ℤ b) h in let i = zero_mul b in
    let l : r ≡ s = omega (arith, ints) in let k : r *ℤ d ≡ s *ℤ b = omega (arith, ints) in
    compare_same l ∙ sym (compare_same k))
    (λ (h : s <ℤ pos 0). absurd (omega (arith, ints)))

scaled_down : (r s b d : ℤ) → pos 0 <ℤ d → pos 0 ≤ℤ r → s ≡ pos 0 → int_cmp r s ≡ int_cmp (r *ℤ d) (s *ℤ b)
scaled_down r s b d dp rn z =
    let e = ap (λ x. x *ℤ b) z in let f = zero_mul b in
    by_order (pos 0) r
    (λ (h : pos 0 <ℤ r).
    let m = mul_positive h dp in
    let l : s <ℤ r = omega (arith, ints) in let k : (s *ℤ b) <ℤ (r *ℤ d) = omega (arith, ints) in
    compare_more l ∙ sym (compare_more k))
    (λ (h : pos 0 ≡ r).
    let g = ap (λ x. x *ℤ d) h in let i = zero_mul d in
    let l : r ≡ s = omega (arith, ints) in let k : r *ℤ d ≡ s *ℤ b = omega (arith, ints) in
    compare_same l ∙ sym (compare_same k))
    (λ (h : r <ℤ pos 0). absurd (omega (arith, ints)))

-- where nothing remains on one side, the rests compare as the scaled rests
pub compare_at_zero : {a b c d p q r s : ℤ} → IsSplit a b p r → IsSplit c d q s → int_cmp p q ≡ Equal → (r ≡ pos 0) ⊎ (s ≡ pos 0) → int_cmp r s ≡ int_cmp (a *ℤ d) (c *ℤ b)
compare_at_zero {b = b} {d = d} {r = r} {s = s} f g e h =
    elim h [
      | inl z ↦ scaled_up r s b d f.positive g.not_negative z ∙ sym (compare_rests f g e)
      | inr z ↦ scaled_down r s b d g.positive f.not_negative z ∙ sym (compare_rests f g e)
    ]

-- else upside down: d / s against b / r
pub compare_upside_down : {a b c d p q r s : ℤ} → IsSplit a b p r → IsSplit c d q s → int_cmp p q ≡ Equal → int_cmp (d *ℤ r) (b *ℤ s) ≡ int_cmp (a *ℤ d) (c *ℤ b)
compare_upside_down {b = b} {d = d} {r = r} {s = s} f g e =
    ap (λ z. int_cmp z (b *ℤ s)) (mul_comm d r) ∙ ap (λ z. int_cmp (r *ℤ d) z) (mul_comm b s) ∙ sym (compare_rests f g e)
