-- From an interval that begins at a place to what holds at that place, and from what holds at a place to a value of the name.
use Rattle.std.proofs.Common.{◌≡◌, ℕ, suc, ◌*◌, ◌<◌, ap, sym, ◌∙◌, subst, refl, arith, nat_eq, mul-pos, ◌↔◌}
use Rattle.std.proofs.Math.IntN.{ℤ, pos, negsuc, ◌+ℤ◌, ◌-ℤ◌, ◌*ℤ◌, neg_ℤ}
use Rattle.std.specs.Prelude.{◌<ℤ◌, ◌≤ℤ◌}
use Rattle.std.proofs.lemmas.Int.{ints}
use Rattle.exact_numbers.proofs.Ring.{mul_comm, mul_assoc, add_mul, sub_mul, neg_mul}
use Rattle.exact_numbers.proofs.Order.{mul_positive}
use Rattle.logic_meaning.specs.Context.{Fields}
use Rattle.logic_meaning.specs.Point.{Point, move}
use Rattle.logic_meaning.specs.Form.{Form, value}
use Rattle.logic_meaning.specs.Answer.{Place, Exact, AboveBy, BelowBy, PlusInfinity, MinusInfinity, Periodic, Meets, Small, Large}
use Rattle.formula_laws.proofs.Values.{pos_mul}
use Rattle.logic_meaning.specs.declared.side.Side.{Side}
use Rattle.logic_meaning.specs.declared.side.Side.TheVariants.{Lower, Upper}
use Rattle.logic_meaning.specs.FieldsSubstitution.{IsFieldPlace}
use Rattle.elimination_theory.proofs.FieldsCut.{Covers, NotAfter, same_not_after}
use Rattle.elimination_theory.proofs.FieldsBegin.{Begins, IsOfSide, cut_of}

pub pos_positive : {n : ℕ} → 0 < n → pos 0 <ℤ pos n
pos_positive {n} h = omega (arith, ints)

pub positive_pos : {n : ℕ} → pos 0 <ℤ pos n → 0 < n
positive_pos {n} h = omega (arith, ints)

-- the absolute value of a positive number
pub magnitude : (a : ℤ) → pos 0 <ℤ a → (u : ℕ) × (pos u ≡ a) × 0 < u
magnitude (pos a) h = (a, refl, positive_pos h)
magnitude (negsuc a) h = absurd (omega (arith, ints))

-- t (b d) as a whole number, and t ((d m) b): the same times m
step_below : (t b d m : ℕ) → pos (t * (b * d)) *ℤ pos m ≡ pos (t * (d * m * b))
step_below t b d m = sym (pos_mul (t * (b * d)) m) ∙ ap pos (regroup t b d m)
  where
    regroup : (t b d m : ℕ) → t * (b * d) * m ≡ t * (d * m * b)
    regroup t b d m = grind arith

above_covers : (v d s c : ℤ) → pos 0 <ℤ d → pos 0 <ℤ c → (v *ℤ (d *ℤ s)) <ℤ ((v *ℤ s +ℤ c) *ℤ d)
above_covers v d s c h k =
    let e = add_mul (v *ℤ s) c d in
    let f : v *ℤ s *ℤ d ≡ v *ℤ (d *ℤ s) = mul_assoc v s d ∙ ap (λ z. v *ℤ z) (mul_comm s d) in
    let g = mul_positive k h in
    omega (arith, ints)

below_covers : (v d s c : ℤ) → pos 0 <ℤ d → pos 0 <ℤ c → ((v *ℤ s -ℤ c) *ℤ d) <ℤ (v *ℤ (d *ℤ s))
below_covers v d s c h k =
    let e = sub_mul (v *ℤ s) c d in
    let f : v *ℤ s *ℤ d ≡ v *ℤ (d *ℤ s) = mul_assoc v s d ∙ ap (λ z. v *ℤ z) (mul_comm s d) in
    let g = mul_positive k h in
    omega (arith, ints)

above_reach : (v s c m k d u w : ℤ) → c *ℤ m ≡ w → w <ℤ (u *ℤ s) → u ≡ k *ℤ d -ℤ v *ℤ m → ((v *ℤ s +ℤ c) *ℤ m) ≤ℤ (k *ℤ (d *ℤ s))
above_reach v s c m k d u w e h f =
    let a = add_mul (v *ℤ s) c m in
    let b = ap (λ z. z *ℤ s) f ∙ sub_mul (k *ℤ d) (v *ℤ m) s in
    let g : k *ℤ d *ℤ s ≡ k *ℤ (d *ℤ s) = mul_assoc k d s in
    let i : v *ℤ m *ℤ s ≡ v *ℤ s *ℤ m = mul_assoc v m s ∙ ap (λ z. v *ℤ z) (mul_comm m s) ∙ sym (mul_assoc v s m) in
    omega (arith, ints)

below_reach : (v s c m k d u w : ℤ) → c *ℤ m ≡ w → w <ℤ (u *ℤ s) → u ≡ v *ℤ m -ℤ k *ℤ d → (k *ℤ (d *ℤ s)) ≤ℤ ((v *ℤ s -ℤ c) *ℤ m)
below_reach v s c m k d u w e h f =
    let a = sub_mul (v *ℤ s) c m in
    let b = ap (λ z. z *ℤ s) f ∙ sub_mul (v *ℤ m) (k *ℤ d) s in
    let g : k *ℤ d *ℤ s ≡ k *ℤ (d *ℤ s) = mul_assoc k d s in
    let i : v *ℤ m *ℤ s ≡ v *ℤ s *ℤ m = mul_assoc v m s ∙ ap (λ z. v *ℤ z) (mul_comm m s) ∙ sym (mul_assoc v s m) in
    omega (arith, ints)

minus_reach : (t b m k s : ℤ) → (neg_ℤ k *ℤ s) <ℤ (t *ℤ (b *ℤ m)) → (neg_ℤ t *ℤ b *ℤ m) ≤ℤ (k *ℤ s)
minus_reach t b m k s h =
    let e = neg_mul k s in
    let f : neg_ℤ t *ℤ b *ℤ m ≡ neg_ℤ (t *ℤ (b *ℤ m)) = mul_assoc (neg_ℤ t) b m ∙ neg_mul t (b *ℤ m) in
    omega (arith, ints)

plus_reach : (t b m k s : ℤ) → (k *ℤ s) <ℤ (t *ℤ (b *ℤ m)) → (k *ℤ s) ≤ℤ (t *ℤ b *ℤ m)
plus_reach t b m k s h = let f = mul_assoc t b m in omega (arith, ints)

scaled_less : (t w u s : ℕ) → t * w < u * s → pos (t * w) <ℤ (pos u *ℤ pos s)
scaled_less t w u s h = let e = pos_mul u s in omega (arith, ints)

-- T holds at the place, where T speaks of the fraction that the name's value is over the denominator of p
abbrev pub Near : Point ℕ → Place → (ℤ → ℕ → Type 0) → Type 0
Near p (Exact e d) T = T (value e p) d
Near p (AboveBy e d) T = Small (λ t s. T (value e p *ℤ pos s +ℤ pos (t * (p.below * d))) (d * s))
Near p (BelowBy e d) T = Small (λ t s. T (value e p *ℤ pos s -ℤ pos (t * (p.below * d))) (d * s))
Near p PlusInfinity T = Large (λ t s. T (t *ℤ pos p.below) s)
Near p MinusInfinity T = Large (λ t s. T (neg_ℤ t *ℤ pos p.below) s)
Near p (Periodic a q) T = ⊥

pub near_meets : (s : Place) (x : ℕ) (R : Point ℕ → Type 0) (p : Point ℕ) → IsFieldPlace s → Near p s (λ k m. R (move nat_eq p x k m)) ↔ Meets Fields s x R p
near_meets (Exact e d) x R p h = (λ t. t, λ t. t)
near_meets (AboveBy e d) x R p h = (λ t. t, λ t. t)
near_meets (BelowBy e d) x R p h = (λ t. t, λ t. t)
near_meets PlusInfinity x R p h = (λ t. t, λ t. t)
near_meets MinusInfinity x R p h = (λ t. t, λ t. t)
near_meets (Periodic a q) x R p h = absurd h

pub field_place : (side : Side) (s : Place) → IsOfSide side s → IsFieldPlace s
field_place side (Exact e d) h = positive_pos h
field_place Lower (AboveBy e d) h = positive_pos h
field_place Upper (AboveBy e d) h = absurd h
field_place Lower (BelowBy e d) h = absurd h
field_place Upper (BelowBy e d) h = positive_pos h
field_place side PlusInfinity h = tt
field_place side MinusInfinity h = tt
field_place side (Periodic a q) h = absurd h

module _ (p : Point ℕ) (pb : 0 < p.below) (T : ℤ → ℕ → Type 0) (k : ℤ) (m : ℕ) (pm : pos 0 <ℤ pos m) where
  near_above_end : (e : Form) (d : ℕ) → pos 0 <ℤ pos d → (value e p *ℤ pos m) <ℤ (k *ℤ pos d) →
      ((j : ℤ) (n : ℕ) → pos 0 <ℤ pos n → (value e p *ℤ pos n) <ℤ (j *ℤ pos d) → (j *ℤ pos m) ≤ℤ (k *ℤ pos n) → T j n) → Near p (AboveBy e d) T
  near_above_end e d pd c f = go (magnitude (k *ℤ pos d -ℤ value e p *ℤ pos m) (omega (arith, ints)))
    where
      go : (u : ℕ) × (pos u ≡ k *ℤ pos d -ℤ value e p *ℤ pos m) × 0 < u → Near p (AboveBy e d) T
      go g = (
        g.0,
        d * m * p.below,
        g.2,
        mul-pos (mul-pos (positive_pos pd) (positive_pos pm)) pb,
        λ t s h i l. f (value e p *ℤ pos s +ℤ pos (t * (p.below * d))) (d * s) (pos_positive (mul-pos (positive_pos pd) i))
            (subst (λ z. (value e p *ℤ z) <ℤ ((value e p *ℤ pos s +ℤ pos (t * (p.below * d))) *ℤ pos d)) (sym (pos_mul d s)) (above_covers (value e p) (pos d) (pos s) (pos (t * (p.below * d))) pd (pos_positive (mul-pos h (mul-pos pb (positive_pos pd))))))
            (subst (λ z. ((value e p *ℤ pos s +ℤ pos (t * (p.below * d))) *ℤ pos m) ≤ℤ (k *ℤ z)) (sym (pos_mul d s)) (above_reach (value e p) (pos s) (pos (t * (p.below * d))) (pos m) k (pos d) (pos g.0) _ (step_below t p.below d m) (scaled_less t (d * m * p.below) g.0 s l) g.1)),
      )

  near_below_end : (e : Form) (d : ℕ) → pos 0 <ℤ pos d → (k *ℤ pos d) <ℤ (value e p *ℤ pos m) →
      ((j : ℤ) (n : ℕ) → pos 0 <ℤ pos n → (j *ℤ pos d) <ℤ (value e p *ℤ pos n) → (k *ℤ pos n) ≤ℤ (j *ℤ pos m) → T j n) → Near p (BelowBy e d) T
  near_below_end e d pd c f = go (magnitude (value e p *ℤ pos m -ℤ k *ℤ pos d) (omega (arith, ints)))
    where
      go : (u : ℕ) × (pos u ≡ value e p *ℤ pos m -ℤ k *ℤ pos d) × 0 < u → Near p (BelowBy e d) T
      go g = (
        g.0,
        d * m * p.below,
        g.2,
        mul-pos (mul-pos (positive_pos pd) (positive_pos pm)) pb,
        λ t s h i l. f (value e p *ℤ pos s -ℤ pos (t * (p.below * d))) (d * s) (pos_positive (mul-pos (positive_pos pd) i))
            (subst (λ z. ((value e p *ℤ pos s -ℤ pos (t * (p.below * d))) *ℤ pos d) <ℤ (value e p *ℤ z)) (sym (pos_mul d s)) (below_covers (value e p) (pos d) (pos s) (pos (t * (p.below * d))) pd (pos_positive (mul-pos h (mul-pos pb (positive_pos pd))))))
            (subst (λ z. (k *ℤ z) ≤ℤ ((value e p *ℤ pos s -ℤ pos (t * (p.below * d))) *ℤ pos m)) (sym (pos_mul d s)) (below_reach (value e p) (pos s) (pos (t * (p.below * d))) (pos m) k (pos d) (pos g.0) _ (step_below t p.below d m) (scaled_less t (d * m * p.below) g.0 s l) g.1)),
      )

  near_minus : ((j : ℤ) (n : ℕ) → pos 0 <ℤ pos n → (j *ℤ pos m) ≤ℤ (k *ℤ pos n) → T j n) → Near p MinusInfinity T
  near_minus f = (
    neg_ℤ k,
    p.below * m,
    mul-pos pb (positive_pos pm),
    λ t s h l. f (neg_ℤ t *ℤ pos p.below) s (pos_positive h) (minus_reach t (pos p.below) (pos m) k (pos s) (subst (λ z. (neg_ℤ k *ℤ pos s) <ℤ (t *ℤ z)) (pos_mul p.below m) l)),
  )

  near_plus : ((j : ℤ) (n : ℕ) → pos 0 <ℤ pos n → (k *ℤ pos n) ≤ℤ (j *ℤ pos m) → T j n) → Near p PlusInfinity T
  near_plus f = (
    k,
    p.below * m,
    mul-pos pb (positive_pos pm),
    λ t s h l. f (t *ℤ pos p.below) s (pos_positive h) (plus_reach t (pos p.below) (pos m) k (pos s) (subst (λ z. (k *ℤ pos s) <ℤ (t *ℤ z)) (pos_mul p.below m) l)),
  )

  pub place_near : (side : Side) (s : Place) → IsOfSide side s → Covers side (cut_of p s) k m →
      ((j : ℤ) (n : ℕ) → pos 0 <ℤ pos n → Covers side (cut_of p s) j n → NotAfter side (j *ℤ pos m) (k *ℤ pos n) → T j n) → Near p s T
  place_near side (Exact e d) o c f = f (value e p) d o (same_not_after side (value e p *ℤ pos d) (value e p *ℤ pos d) refl) c
  place_near Lower (AboveBy e d) o c f = near_above_end e d o c f
  place_near Upper (AboveBy e d) o c f = absurd o
  place_near Lower (BelowBy e d) o c f = absurd o
  place_near Upper (BelowBy e d) o c f = near_below_end e d o c f
  place_near Lower PlusInfinity o c f = absurd o
  place_near Upper PlusInfinity o c f = near_plus (λ j n q h. f j n q tt h)
  place_near Lower MinusInfinity o c f = near_minus (λ j n q h. f j n q tt h)
  place_near Upper MinusInfinity o c f = absurd o
  place_near side (Periodic a q) o c f = absurd o

-- what holds up to a value holds at the place where the interval begins
pub begins_meets : (x : ℕ) (p : Point ℕ) → 0 < p.below → (R : Point ℕ → Type 0) (k : ℤ) (m : ℕ) → pos 0 <ℤ pos m → (side : Side) (L : Place → Type 0) (b : Begins side L p (λ j n. R (move nat_eq p x j n)) k m) → Meets Fields b.place x R p
begins_meets x p pb R k m pm side L b =
    (near_meets b.place x R p (field_place side b.place b.of_side)).0 (place_near p pb (λ j n. R (move nat_eq p x j n)) k m pm side b.place b.of_side b.covers b.fills)

-- ---- back: what holds at a place holds at some value

pub small_some : (Q : ℕ → ℕ → Type 0) → Small Q → (t : ℕ) × (s : ℕ) × 0 < t × 0 < s × Q t s
small_some Q h = (1, suc h.1, omega arith, omega arith, h.4 1 (suc h.1) (omega arith) (omega arith) (enough h.0 h.1 h.2))
  where
    enough : (u w : ℕ) → 0 < u → 1 * w < u * suc w
    enough u w p = grind arith

pub large_some : (Q : ℤ → ℕ → Type 0) → Large Q → (t : ℤ) × (s : ℕ) × 0 < s × Q t s
large_some Q h = go h.0 h.1 h.2 h.3
  where
    go : (u : ℤ) (w : ℕ) → 0 < w → ((t : ℤ) (s : ℕ) → 0 < s → (u *ℤ pos s) <ℤ (t *ℤ pos w) → Q t s) → (t : ℤ) × (s : ℕ) × 0 < s × Q t s
    go u w h f = (u +ℤ pos 1, w, h, f (u +ℤ pos 1) w h (let e = add_mul u (pos 1) (pos w) in let i = pos_positive h in omega (arith, ints)))

pub near_some : (s : Place) (T : ℤ → ℕ → Type 0) (p : Point ℕ) → IsFieldPlace s → Near p s T → (k : ℤ) × (m : ℕ) × 0 < m × T k m
near_some (Exact e d) T p h r = (value e p, d, h, r)
near_some (AboveBy e d) T p h r = let g = small_some (λ t s. T (value e p *ℤ pos s +ℤ pos (t * (p.below * d))) (d * s)) r in (_, d * g.1, mul-pos h g.3, g.4)
near_some (BelowBy e d) T p h r = let g = small_some (λ t s. T (value e p *ℤ pos s -ℤ pos (t * (p.below * d))) (d * s)) r in (_, d * g.1, mul-pos h g.3, g.4)
near_some PlusInfinity T p h r = let g = large_some (λ t s. T (t *ℤ pos p.below) s) r in (_, g.1, g.2, g.3)
near_some MinusInfinity T p h r = let g = large_some (λ t s. T (neg_ℤ t *ℤ pos p.below) s) r in (_, g.1, g.2, g.3)
near_some (Periodic a q) T p h r = absurd h

-- what holds at a place holds at some value
pub meets_some : (s : Place) (x : ℕ) (R : Point ℕ → Type 0) (p : Point ℕ) → IsFieldPlace s → Meets Fields s x R p → (k : ℤ) × (m : ℕ) × 0 < m × R (move nat_eq p x k m)
meets_some s x R p h r = near_some s (λ k m. R (move nat_eq p x k m)) p h ((near_meets s x R p h).1 r)
