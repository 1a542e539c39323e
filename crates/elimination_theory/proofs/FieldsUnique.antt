-- A place of the ordered fields has one sample alone.
use Rattle.std.proofs.Common.{◌≡◌, ℕ, ◌*◌, ◌<◌, ap, ap₂, sym, ◌∙◌, subst₂, mul-pos, arith, inl, inr}
use Rattle.std.proofs.Math.IntN.{ℤ, pos, ◌+ℤ◌, ◌-ℤ◌, ◌*ℤ◌}
use Rattle.std.specs.Prelude.{◌<ℤ◌}
use Rattle.exact_numbers.proofs.Ring.{ring, mul_comm, mul_assoc, mul_left_comm, add_mul, sub_mul, zero_mul}
use Rattle.exact_numbers.proofs.Order.{by_order, cancel_positive, mul_positive}
use Rattle.logic_meaning.specs.Point.{Point}
use Rattle.logic_meaning.specs.Form.{value}
use Rattle.logic_meaning.specs.Answer.{Exact, AboveBy, BelowBy, PlusInfinity, MinusInfinity, Periodic}
use Rattle.logic_meaning.specs.Tree.{Tree}
use Rattle.formula_laws.proofs.Values.{pos_mul}
use Rattle.elimination_theory.specs.FieldsSamples.{IsJustPast, IsJustShort, IsBelowAll, IsAboveAll, FieldSampleIsUnique}
use Rattle.elimination_theory.proofs.FieldsSample.{twice}
use Rattle.elimination_theory.proofs.FieldsMeet.{pos_positive}

-- k/m and j/n are v/d
one_value : (v d k m j n : ℤ) → pos 0 <ℤ d → k *ℤ d ≡ v *ℤ m → j *ℤ d ≡ v *ℤ n → k *ℤ n ≡ j *ℤ m
one_value v d k m j n pd e f =
    let a : d *ℤ (k *ℤ n) ≡ n *ℤ (v *ℤ m) = mul_left_comm d k n ∙ sym (mul_assoc k d n) ∙ ap (λ z. z *ℤ n) e ∙ mul_comm (v *ℤ m) n in
    let b : d *ℤ (j *ℤ m) ≡ m *ℤ (v *ℤ n) = mul_left_comm d j m ∙ sym (mul_assoc j d m) ∙ ap (λ z. z *ℤ m) f ∙ mul_comm (v *ℤ n) m in
    let c : n *ℤ (v *ℤ m) ≡ m *ℤ (v *ℤ n) = mul_left_comm n v m ∙ ap (λ z. v *ℤ z) (mul_comm n m) ∙ mul_left_comm v m n in
    cancel_positive d pd (a ∙ c ∙ sym b)

-- each of two values is the sum of the other's parts: s/t and u/w are one fraction, and k/m, j/n are those fractions
one_fraction : (s t u w k m j n : ℤ) → pos 0 <ℤ t → pos 0 <ℤ w → s *ℤ w ≡ u *ℤ t → k *ℤ t ≡ s *ℤ m → j *ℤ w ≡ u *ℤ n → k *ℤ n ≡ j *ℤ m
one_fraction s t u w k m j n pt pw g e f =
    let a : (t *ℤ w) *ℤ (k *ℤ n) ≡ (s *ℤ w) *ℤ (m *ℤ n) = first t w k n ∙ ap (λ z. z *ℤ (w *ℤ n)) e ∙ second s m w n in
    let b : (t *ℤ w) *ℤ (j *ℤ m) ≡ (u *ℤ t) *ℤ (m *ℤ n) = third t w j m ∙ ap (λ z. z *ℤ (t *ℤ m)) f ∙ fourth u n t m in
    cancel_positive (t *ℤ w) (mul_positive pt pw) (a ∙ ap (λ z. z *ℤ (m *ℤ n)) g ∙ sym b)
  where
    first : (t w k n : ℤ) → (t *ℤ w) *ℤ (k *ℤ n) ≡ (k *ℤ t) *ℤ (w *ℤ n)
    first t w k n = simp ring

    second : (s m w n : ℤ) → (s *ℤ m) *ℤ (w *ℤ n) ≡ (s *ℤ w) *ℤ (m *ℤ n)
    second s m w n = simp ring

    third : (t w j m : ℤ) → (t *ℤ w) *ℤ (j *ℤ m) ≡ (j *ℤ w) *ℤ (t *ℤ m)
    third t w j m = simp ring

    fourth : (u n t m : ℤ) → (u *ℤ n) *ℤ (t *ℤ m) ≡ (u *ℤ t) *ℤ (m *ℤ n)
    fourth u n t m = simp ring

-- two fractions of which neither is less
neither_less : (j i : ℤ) (n l : ℕ) → ¬ ((j *ℤ pos l) <ℤ (i *ℤ pos n)) → ¬ ((i *ℤ pos n) <ℤ (j *ℤ pos l)) → j *ℤ pos l ≡ i *ℤ pos n
neither_less j i n l h k = by_order (j *ℤ pos l) (i *ℤ pos n) (λ a. absurd (h a)) (λ e. e) (λ b. absurd (k b))

-- the sums half way to one fraction in two representations
half_sums : (v d j n i l : ℤ) → j *ℤ l ≡ i *ℤ n → (v *ℤ n +ℤ j *ℤ d) *ℤ (pos 2 *ℤ (d *ℤ l)) ≡ (v *ℤ l +ℤ i *ℤ d) *ℤ (pos 2 *ℤ (d *ℤ n))
half_sums v d j n i l e =
    add_mul (v *ℤ n) (j *ℤ d) (pos 2 *ℤ (d *ℤ l))
    ∙ ap₂ (λ a b. a +ℤ b) (first v n d l) (second j d l ∙ ap (λ z. z *ℤ (pos 2 *ℤ (d *ℤ d))) e ∙ third i n d)
    ∙ sym (add_mul (v *ℤ l) (i *ℤ d) (pos 2 *ℤ (d *ℤ n)))
  where
    first : (v n d l : ℤ) → (v *ℤ n) *ℤ (pos 2 *ℤ (d *ℤ l)) ≡ (v *ℤ l) *ℤ (pos 2 *ℤ (d *ℤ n))
    first v n d l = simp ring

    second : (j d l : ℤ) → (j *ℤ d) *ℤ (pos 2 *ℤ (d *ℤ l)) ≡ (j *ℤ l) *ℤ (pos 2 *ℤ (d *ℤ d))
    second j d l = simp ring

    third : (i n d : ℤ) → (i *ℤ n) *ℤ (pos 2 *ℤ (d *ℤ d)) ≡ (i *ℤ d) *ℤ (pos 2 *ℤ (d *ℤ n))
    third i n d = simp ring

-- a shift of one fraction in two representations
shifted : (j n i l b : ℤ) → j *ℤ l ≡ i *ℤ n → (j +ℤ n *ℤ b) *ℤ l ≡ (i +ℤ l *ℤ b) *ℤ n
shifted j n i l b e = add_mul j (n *ℤ b) l ∙ ap₂ (λ x y. x +ℤ y) e (turned n b l) ∙ sym (add_mul i (l *ℤ b) n)
  where
    turned : (n b l : ℤ) → (n *ℤ b) *ℤ l ≡ (l *ℤ b) *ℤ n
    turned n b l = simp ring

shifted_down : (j n i l b : ℤ) → j *ℤ l ≡ i *ℤ n → (j -ℤ n *ℤ b) *ℤ l ≡ (i -ℤ l *ℤ b) *ℤ n
shifted_down j n i l b e = sub_mul j (n *ℤ b) l ∙ ap₂ (λ x y. x -ℤ y) e (turned n b l) ∙ sym (sub_mul i (l *ℤ b) n)
  where
    turned : (n b l : ℤ) → (n *ℤ b) *ℤ l ≡ (l *ℤ b) *ℤ n
    turned n b l = simp ring

twice_positive : (n l : ℕ) → 0 < n → 0 < l → pos 0 <ℤ pos (2 * (n * l))
twice_positive n l h k = pos_positive (mul-pos (omega arith) (mul-pos h k))

module _ (x : ℕ) (f : Tree) (p : Point ℕ) (k : ℤ) (m : ℕ) (j : ℤ) (n : ℕ) (pm : 0 < m) (pn : 0 < n) where
  half_unique : (v : ℤ) (d : ℕ) (a : ℤ) (b : ℕ) (c : ℤ) (e : ℕ) → 0 < d → 0 < b → 0 < e → a *ℤ pos e ≡ c *ℤ pos b →
      k *ℤ pos (2 * (d * b)) ≡ (v *ℤ pos b +ℤ a *ℤ pos d) *ℤ pos m → j *ℤ pos (2 * (d * e)) ≡ (v *ℤ pos e +ℤ c *ℤ pos d) *ℤ pos n → k *ℤ pos n ≡ j *ℤ pos m
  half_unique v d a b c e pd pb pe same h i =
      one_fraction (v *ℤ pos b +ℤ a *ℤ pos d) (pos (2 * (d * b))) (v *ℤ pos e +ℤ c *ℤ pos d) (pos (2 * (d * e))) k (pos m) j (pos n)
      (twice_positive d b pd pb) (twice_positive d e pd pe)
      (ap (λ z. (v *ℤ pos b +ℤ a *ℤ pos d) *ℤ z) (twice d e) ∙ half_sums v (pos d) a (pos b) c (pos e) same ∙ sym (ap (λ z. (v *ℤ pos e +ℤ c *ℤ pos d) *ℤ z) (twice d b))) h i

  past_unique : (v : ℤ) (d : ℕ) → 0 < d → IsJustPast x f p v d k m → IsJustPast x f p v d j n → k *ℤ pos n ≡ j *ℤ pos m
  past_unique v d pd (inl (a, b, pb, ca, above, first, half)) (inl (c, e, pe, cc', above', first', half')) =
      half_unique v d a b c e pd pb pe
      (neither_less a c b e (λ less. first' a b pb (above, less) ca) (λ less. first c e pe (above', less) cc')) half half'
  past_unique v d pd (inl (a, b, pb, ca, above, first, half)) (inr (none, one)) = absurd (none a b pb above ca)
  past_unique v d pd (inr (none, one)) (inl (a, b, pb, ca, above, first, half)) = absurd (none a b pb above ca)
  past_unique v d pd (inr (none, one)) (inr (none', one')) = one_value (v +ℤ pos (d * p.below)) (pos d) k (pos m) j (pos n) (pos_positive pd) one one'

  short_unique : (v : ℤ) (d : ℕ) → 0 < d → IsJustShort x f p v d k m → IsJustShort x f p v d j n → k *ℤ pos n ≡ j *ℤ pos m
  short_unique v d pd (inl (a, b, pb, ca, below, first, half)) (inl (c, e, pe, cc', below', first', half')) =
      half_unique v d a b c e pd pb pe
      (neither_less a c b e (λ less. first c e pe (below', less) cc') (λ less. first' a b pb (below, less) ca)) half half'
  short_unique v d pd (inl (a, b, pb, ca, below, first, half)) (inr (none, one)) = absurd (none a b pb below ca)
  short_unique v d pd (inr (none, one)) (inl (a, b, pb, ca, below, first, half)) = absurd (none a b pb below ca)
  short_unique v d pd (inr (none, one)) (inr (none', one')) = one_value (v -ℤ pos (d * p.below)) (pos d) k (pos m) j (pos n) (pos_positive pd) one one'

  zero_unique : k ≡ pos 0 → j ≡ pos 0 → k *ℤ pos n ≡ j *ℤ pos m
  zero_unique e g = ap (λ z. z *ℤ pos n) e ∙ zero_mul (pos n) ∙ sym (zero_mul (pos m)) ∙ sym (ap (λ z. z *ℤ pos m) g)

  below_unique : IsBelowAll x f p k m → IsBelowAll x f p j n → k *ℤ pos n ≡ j *ℤ pos m
  below_unique (inl (a, b, pb, ca, first, one)) (inl (c, e, pe, cc', first', one')) =
      one_fraction (a -ℤ pos (b * p.below)) (pos b) (c -ℤ pos (e * p.below)) (pos e) k (pos m) j (pos n) (pos_positive pb) (pos_positive pe)
      (subst₂ (λ y z. (a -ℤ y) *ℤ pos e ≡ (c -ℤ z) *ℤ pos b) (sym (pos_mul b p.below)) (sym (pos_mul e p.below))
      (shifted_down a (pos b) c (pos e) (pos p.below) (neither_less a c b e (λ less. first' a b pb less ca) (λ less. first c e pe less cc')))) one one'
  below_unique (inl (a, b, pb, ca, first, one)) (inr (none, middle)) = absurd (none a b pb tt ca)
  below_unique (inr (none, middle)) (inl (a, b, pb, ca, first, one)) = absurd (none a b pb tt ca)
  below_unique (inr (none, middle)) (inr (none', middle')) = zero_unique middle middle'

  above_unique : IsAboveAll x f p k m → IsAboveAll x f p j n → k *ℤ pos n ≡ j *ℤ pos m
  above_unique (inl (a, b, pb, ca, first, one)) (inl (c, e, pe, cc', first', one')) =
      one_fraction (a +ℤ pos (b * p.below)) (pos b) (c +ℤ pos (e * p.below)) (pos e) k (pos m) j (pos n) (pos_positive pb) (pos_positive pe)
      (subst₂ (λ y z. (a +ℤ y) *ℤ pos e ≡ (c +ℤ z) *ℤ pos b) (sym (pos_mul b p.below)) (sym (pos_mul e p.below))
      (shifted a (pos b) c (pos e) (pos p.below) (neither_less a c b e (λ less. first c e pe less cc') (λ less. first' a b pb less ca)))) one one'
  above_unique (inl (a, b, pb, ca, first, one)) (inr (none, middle)) = absurd (none a b pb tt ca)
  above_unique (inr (none, middle)) (inl (a, b, pb, ca, first, one)) = absurd (none a b pb tt ca)
  above_unique (inr (none, middle)) (inr (none', middle')) = zero_unique middle middle'

pub sample_unique : FieldSampleIsUnique
sample_unique x (Exact e d) f p k m j n h pm pn s t = one_value (value e p) (pos d) k (pos m) j (pos n) (pos_positive h) s t
sample_unique x (AboveBy e d) f p k m j n h pm pn s t = past_unique x f p k m j n pm pn (value e p) d h s t
sample_unique x (BelowBy e d) f p k m j n h pm pn s t = short_unique x f p k m j n pm pn (value e p) d h s t
sample_unique x PlusInfinity f p k m j n h pm pn s t = above_unique x f p k m j n pm pn s t
sample_unique x MinusInfinity f p k m j n h pm pn s t = below_unique x f p k m j n pm pn s t
sample_unique x (Periodic a q) f p k m j n h pm pn s t = absurd h
