-- Comparisons near a place of the ordered fields have the truth of their substitution.
use Rattle.std.proofs.Common.{◌≡◌, ℕ, suc, ◌*◌, ◌<◌, ap, sym, ◌∙◌, refl, arith, ◌⊎◌, inl, inr, ◌↔◌, mul-pos}
use Rattle.std.proofs.Math.IntN.{ℤ, pos, negsuc, ◌+ℤ◌, ◌-ℤ◌, ◌*ℤ◌, neg_ℤ}
use Rattle.std.specs.Prelude.{◌≤◌, ◌<ℤ◌, ◌≤ℤ◌}
use Rattle.std.proofs.lemmas.Int.{ints}
use Rattle.exact_numbers.proofs.Ring.{mul_comm, mul_left_comm, neg_mul, mul_neg}
use Rattle.exact_numbers.proofs.Order.{mul_positive, mul_not_negative, by_less}
use Rattle.logic_meaning.specs.Context.{Fields}
use Rattle.logic_meaning.specs.Point.{Point}
use Rattle.logic_meaning.specs.Form.{Form, value}
use Rattle.logic_meaning.specs.Atom.{Relation, Equals, Differs, Below, AtMost, Above, AtLeast, Relates, mirrored}
use Rattle.logic_meaning.specs.Answer.{Small, Large}
use Rattle.logic_meaning.specs.Tree.{TrueAt}
use Rattle.formula_laws.proofs.Values.{pos_mul}
use Rattle.logic_meaning.specs.Substitution.{below_all}
use Rattle.logic_meaning.specs.FieldsSubstitution.{just_above, just_below}
use Rattle.elimination_theory.proofs.Fractions.{less_at_most, at_most_less, less_less}
use Rattle.elimination_theory.proofs.FieldsMeet.{pos_positive, magnitude}

-- ---- what holds of all small, or of all large fractions

to_z_less : (a b c d : ℕ) → a * b < c * d → (pos a *ℤ pos b) <ℤ (pos c *ℤ pos d)
to_z_less a b c d h = let e = pos_mul a b in let f = pos_mul c d in omega (arith, ints)

to_z_at_most : (a b c d : ℕ) → a * b ≤ c * d → (pos a *ℤ pos b) ≤ℤ (pos c *ℤ pos d)
to_z_at_most a b c d h = let e = pos_mul a b in let f = pos_mul c d in omega (arith, ints)

from_z_less : (a b c d : ℕ) → (pos a *ℤ pos b) <ℤ (pos c *ℤ pos d) → a * b < c * d
from_z_less a b c d h = let e = pos_mul a b in let f = pos_mul c d in omega (arith, ints)

lesser : (t s u w v z : ℕ) → 0 < s → 0 < w → 0 < z → u * z ≤ v * w → t * w < u * s → t * z < v * s
lesser t s u w v z ps pw pz h k =
    from_z_less t z v s (less_at_most (pos t) (pos s) (pos u) (pos w) (pos v) (pos z) (pos_positive ps) (pos_positive pw) (pos_positive pz) (to_z_less t w u s k) (to_z_at_most u z v w h))

pub small_both : (Q R : ℕ → ℕ → Type 0) → Small Q → Small R → Small (λ t s. Q t s × R t s)
small_both Q R a b = go a.0 a.1 a.2 a.3 a.4 b.0 b.1 b.2 b.3 b.4
  where
    go : (u w : ℕ) → 0 < u → 0 < w → ((t s : ℕ) → 0 < t → 0 < s → t * w < u * s → Q t s) →
        (v z : ℕ) → 0 < v → 0 < z → ((t s : ℕ) → 0 < t → 0 < s → t * z < v * s → R t s) → Small (λ t s. Q t s × R t s)
    go u w pu pw f v z pv pz g =
        by_less (pos (v * w)) (pos (u * z))
        (λ (l : pos (v * w) <ℤ pos (u * z)). let k : v * w ≤ u * z = omega (arith, ints) in (v, z, pv, pz, λ t s h i j. (f t s h i (lesser t s v z u w i pz pw k j), g t s h i j)))
        (λ (l : pos (u * z) ≤ℤ pos (v * w)). let k : u * z ≤ v * w = omega (arith, ints) in (u, w, pu, pw, λ t s h i j. (f t s h i j, g t s h i (lesser t s u w v z i pw pz k j))))

pub large_both : (Q R : ℤ → ℕ → Type 0) → Large Q → Large R → Large (λ t s. Q t s × R t s)
large_both Q R a b = go a.0 a.1 a.2 a.3 b.0 b.1 b.2 b.3
  where
    go : (u : ℤ) (w : ℕ) → 0 < w → ((t : ℤ) (s : ℕ) → 0 < s → (u *ℤ pos s) <ℤ (t *ℤ pos w) → Q t s) →
        (v : ℤ) (z : ℕ) → 0 < z → ((t : ℤ) (s : ℕ) → 0 < s → (v *ℤ pos s) <ℤ (t *ℤ pos z) → R t s) → Large (λ t s. Q t s × R t s)
    go u w pw f v z pz g =
        by_less (v *ℤ pos w) (u *ℤ pos z)
        (λ (l : (v *ℤ pos w) <ℤ (u *ℤ pos z)). (u, w, pw, λ t s i j. (f t s i j, g t s i (less_less v (pos z) u (pos w) t (pos s) (pos_positive pz) (pos_positive pw) (pos_positive i) l j))))
        (λ (l : (u *ℤ pos z) ≤ℤ (v *ℤ pos w)). (v, z, pz, λ t s i j. (f t s i (at_most_less u (pos w) v (pos z) t (pos s) (pos_positive pw) (pos_positive pz) (pos_positive i) l j), g t s i j)))

pub small_all : (Q : ℕ → ℕ → Type 0) → ((t s : ℕ) → 0 < t → 0 < s → Q t s) → Small Q
small_all Q f = (1, 1, omega arith, omega arith, λ t s h k l. f t s h k)

pub large_all : (Q : ℤ → ℕ → Type 0) → ((t : ℤ) (s : ℕ) → 0 < s → Q t s) → Large Q
large_all Q f = (pos 0, 1, omega arith, λ t s h k. f t s h)

pub small_map : (Q R : ℕ → ℕ → Type 0) → ((t s : ℕ) → 0 < s → Q t s → R t s) → Small Q → Small R
small_map Q R f h = (h.0, h.1, h.2, h.3, λ t s i j k. f t s j (h.4 t s i j k))

pub large_map : (Q R : ℤ → ℕ → Type 0) → ((t : ℤ) (s : ℕ) → 0 < s → Q t s → R t s) → Large Q → Large R
large_map Q R f h = (h.0, h.1, h.2, λ t s i j. f t s i (h.3 t s i j))

-- ---- the tables

-- z is a little above v: their signs, where v may be 0 and z may not
abbrev pub IsJustAbove : ℤ → ℤ → Type 0
IsJustAbove v z = ((v <ℤ pos 0) × (z <ℤ pos 0)) ⊎ ((pos 0 ≤ℤ v) × (pos 0 <ℤ z))

abbrev pub IsJustBelow : ℤ → ℤ → Type 0
IsJustBelow v z = ((v ≤ℤ pos 0) × (z <ℤ pos 0)) ⊎ ((pos 0 <ℤ v) × (pos 0 <ℤ z))

pub above_table : (r : Relation) (v : Form) (p : Point ℕ) (z : ℤ) → IsJustAbove (value v p) z → Relates r z (pos 0) ↔ TrueAt Fields (just_above r v) p
above_table Equals v p z h = (λ (e : z ≡ pos 0). absurd (omega (arith, ints)), λ e. absurd e)
above_table Differs v p z h = (λ e. tt, λ u (e : z ≡ pos 0). absurd (omega (arith, ints)))
above_table Below v p z h = (λ (e : z <ℤ pos 0). omega (arith, ints), λ (e : value v p <ℤ pos 0). omega (arith, ints))
above_table AtMost v p z h = (λ (e : z ≤ℤ pos 0). omega (arith, ints), λ (e : value v p <ℤ pos 0). omega (arith, ints))
above_table Above v p z h = (λ (e : pos 0 <ℤ z). omega (arith, ints), λ (e : pos 0 ≤ℤ value v p). omega (arith, ints))
above_table AtLeast v p z h = (λ (e : pos 0 ≤ℤ z). omega (arith, ints), λ (e : pos 0 ≤ℤ value v p). omega (arith, ints))

pub below_table : (r : Relation) (v : Form) (p : Point ℕ) (z : ℤ) → IsJustBelow (value v p) z → Relates r z (pos 0) ↔ TrueAt Fields (just_below r v) p
below_table Equals v p z h = (λ (e : z ≡ pos 0). absurd (omega (arith, ints)), λ e. absurd e)
below_table Differs v p z h = (λ e. tt, λ u (e : z ≡ pos 0). absurd (omega (arith, ints)))
below_table Below v p z h = (λ (e : z <ℤ pos 0). omega (arith, ints), λ (e : value v p ≤ℤ pos 0). omega (arith, ints))
below_table AtMost v p z h = (λ (e : z ≤ℤ pos 0). omega (arith, ints), λ (e : value v p ≤ℤ pos 0). omega (arith, ints))
below_table Above v p z h = (λ (e : pos 0 <ℤ z). omega (arith, ints), λ (e : pos 0 <ℤ value v p). omega (arith, ints))
below_table AtLeast v p z h = (λ (e : pos 0 ≤ℤ z). omega (arith, ints), λ (e : pos 0 <ℤ value v p). omega (arith, ints))

pub low_table : (r : Relation) (p : Point ℕ) (z : ℤ) → z <ℤ pos 0 → Relates r z (pos 0) ↔ TrueAt Fields (below_all r) p
low_table Equals p z h = (λ (e : z ≡ pos 0). absurd (omega (arith, ints)), λ e. absurd e)
low_table Differs p z h = (λ e. tt, λ u (e : z ≡ pos 0). absurd (omega (arith, ints)))
low_table Below p z h = (λ e. tt, λ e. h)
low_table AtMost p z h = (λ e. tt, λ e. omega (arith, ints))
low_table Above p z h = (λ (e : pos 0 <ℤ z). absurd (omega (arith, ints)), λ e. absurd e)
low_table AtLeast p z h = (λ (e : pos 0 ≤ℤ z). absurd (omega (arith, ints)), λ e. absurd e)

pub high_table : (r : Relation) (p : Point ℕ) (z : ℤ) → pos 0 <ℤ z → Relates r z (pos 0) ↔ TrueAt Fields (below_all (mirrored r)) p
high_table Equals p z h = (λ (e : z ≡ pos 0). absurd (omega (arith, ints)), λ e. absurd e)
high_table Differs p z h = (λ e. tt, λ u (e : z ≡ pos 0). absurd (omega (arith, ints)))
high_table Below p z h = (λ (e : z <ℤ pos 0). absurd (omega (arith, ints)), λ e. absurd e)
high_table AtMost p z h = (λ (e : z ≤ℤ pos 0). absurd (omega (arith, ints)), λ e. absurd e)
high_table Above p z h = (λ e. tt, λ e. h)
high_table AtLeast p z h = (λ e. tt, λ e. omega (arith, ints))

-- ---- signs near a place

-- s v + a c, where a is positive and c small and positive, has the sign of v, or is positive where v is 0
sign_above : (a v c s : ℤ) → pos 0 <ℤ a → pos 0 <ℤ c → pos 0 <ℤ s → pos 0 ≤ℤ v → pos 0 <ℤ (s *ℤ v +ℤ a *ℤ c)
sign_above a v c s pa pc ps h = let m = mul_positive pa pc in let n : pos 0 ≤ℤ s = omega (arith, ints) in let k = mul_not_negative n h in omega (arith, ints)

sign_below : (a v c s u w t : ℤ) → u ≡ neg_ℤ v → t *ℤ w ≡ a *ℤ c → (t *ℤ w) <ℤ (u *ℤ s) → (s *ℤ v +ℤ a *ℤ c) <ℤ pos 0
sign_below a v c s u w t e f h = let g = ap (λ z. z *ℤ s) e ∙ neg_mul v s in let i = mul_comm v s in omega (arith, ints)

regroup : (t n b d : ℕ) → pos t *ℤ pos (suc n * (b * d)) ≡ pos (suc n) *ℤ pos (t * (b * d))
regroup t n b d =
    let e = pos_mul (suc n) (b * d) in let f = pos_mul t (b * d) in
    ap (λ z. pos t *ℤ z) e ∙ mul_left_comm (pos t) (pos (suc n)) (pos (b * d)) ∙ ap (λ z. pos (suc n) *ℤ z) (sym f)

-- a number that grows from v with slope a, a little above
pub near_above : (n b d : ℕ) → 0 < b → 0 < d → (v : ℤ) → Small (λ t s. IsJustAbove v (pos s *ℤ v +ℤ pos (suc n) *ℤ pos (t * (b * d))))
near_above n b d pb pd v =
    by_less v (pos 0)
    (λ (l : v <ℤ pos 0). go (magnitude (neg_ℤ v) (omega (arith, ints))) l)
    (λ (l : pos 0 ≤ℤ v). small_all _ (λ t s h k. inr (l, sign_above (pos (suc n)) v (pos (t * (b * d))) (pos s) (omega (arith, ints)) (pos_positive (mul-pos h (mul-pos pb pd))) (pos_positive k) l)))
  where
    go : (u : ℕ) × (pos u ≡ neg_ℤ v) × 0 < u → v <ℤ pos 0 → Small (λ t s. IsJustAbove v (pos s *ℤ v +ℤ pos (suc n) *ℤ pos (t * (b * d))))
    go g l = (
      g.0,
      suc n * (b * d),
      g.2,
      mul-pos (omega arith) (mul-pos pb pd),
      λ t s h k i. inl (l, sign_below (pos (suc n)) v (pos (t * (b * d))) (pos s) (pos g.0) (pos (suc n * (b * d))) (pos t) g.1 (regroup t n b d) (to_z_less t (suc n * (b * d)) g.0 s i)),
    )

turn_above : (v z y : ℤ) → y ≡ neg_ℤ z → IsJustAbove (neg_ℤ v) y → IsJustBelow v z
turn_above v z y e (inl h) = inr (let a = h.0 in let b = h.1 in omega (arith, ints), let a = h.0 in let b = h.1 in omega (arith, ints))
turn_above v z y e (inr h) = inl (let a = h.0 in let b = h.1 in omega (arith, ints), let a = h.0 in let b = h.1 in omega (arith, ints))

negated_sum : (s v c : ℤ) (n : ℕ) → s *ℤ neg_ℤ v +ℤ pos (suc n) *ℤ c ≡ neg_ℤ (s *ℤ v +ℤ negsuc n *ℤ c)
negated_sum s v c n =
    let a = mul_neg s v in
    let b = neg_mul (pos (suc n)) c in
    omega (arith, ints)

pub near_below : (n b d : ℕ) → 0 < b → 0 < d → (v : ℤ) → Small (λ t s. IsJustBelow v (pos s *ℤ v +ℤ negsuc n *ℤ pos (t * (b * d))))
near_below n b d pb pd v =
    small_map _ _ (λ t s h i. turn_above v (pos s *ℤ v +ℤ negsuc n *ℤ pos (t * (b * d))) _ (negated_sum (pos s) v (pos (t * (b * d))) n) i) (near_above n b d pb pd (neg_ℤ v))

-- ---- signs far out

far_low : (u s c tb w b t : ℤ) → tb ≡ t *ℤ b → w ≡ c *ℤ b → (u *ℤ s) <ℤ (t *ℤ w) → (u *ℤ s -ℤ c *ℤ tb) <ℤ pos 0
far_low u s c tb w b t e f h = let g = ap (λ z. t *ℤ z) f ∙ mul_left_comm t c b ∙ ap (λ z. c *ℤ z) (sym e) in omega (arith, ints)

pub low_far : (n b : ℕ) → 0 < b → (u : ℤ) → Large (λ t s. (u *ℤ pos s -ℤ pos (suc n) *ℤ (t *ℤ pos b)) <ℤ pos 0)
low_far n b pb u = (u, suc n * b, mul-pos (omega arith) pb, λ t s h i. far_low u (pos s) (pos (suc n)) (t *ℤ pos b) (pos (suc n * b)) (pos b) t refl (pos_mul (suc n) b) i)

pub high_far : (n b : ℕ) → 0 < b → (u : ℤ) → Large (λ t s. pos 0 <ℤ (u *ℤ pos s -ℤ negsuc n *ℤ (t *ℤ pos b)))
high_far n b pb u =
    large_map _ _
    (λ t s h (i : (neg_ℤ u *ℤ pos s -ℤ pos (suc n) *ℤ (t *ℤ pos b)) <ℤ pos 0).
    let e = neg_mul u (pos s) in let f = neg_mul (pos (suc n)) (t *ℤ pos b) in
    omega (arith, ints))
    (low_far n b pb (neg_ℤ u))
