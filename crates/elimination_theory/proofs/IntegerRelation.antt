-- Comparisons of whole numbers: multiplied, moved, mirrored; their steps down and their truth below all bounds.
use Rattle.std.proofs.Common.{◌≡◌, ℕ, ◌<◌, ℤ, pos, ◌+ℤ◌, ◌-ℤ◌, ◌*ℤ◌, neg_ℤ, ◌≤ℤ◌, ◌<ℤ◌, ◌⊎◌, ◌↔◌, arith, refl, inl, inr, subst, sym}
use Rattle.std.proofs.lemmas.Int.{ints}
use Rattle.exact_numbers.proofs.Ring.{ring}
use Rattle.exact_numbers.proofs.Order.{by_order}
use Rattle.logic_meaning.specs.Atom.{mirrored, Relation, Equals, Differs, Below, AtMost, Above, AtLeast, Relates}
use Rattle.elimination_theory.proofs.MoreArithmetic.{less_or_at_least, le_of_lt}
use Rattle.formula_laws.proofs.Relations.{relates_mul}

pub relates_move : (r : Relation) (a b c d : ℤ) → a -ℤ b ≡ c -ℤ d → Relates r a b → Relates r c d
relates_move Equals a b c d e h = omega (arith, ints)
relates_move Differs a b c d e h = λ (s : c ≡ d). h (omega (arith, ints))
relates_move Below a b c d e h = omega (arith, ints)
relates_move AtMost a b c d e h = omega (arith, ints)
relates_move Above a b c d e h = omega (arith, ints)
relates_move AtLeast a b c d e h = omega (arith, ints)

pub relates_mirror : (r : Relation) (a b c d : ℤ) → a -ℤ b ≡ d -ℤ c → Relates r a b → Relates (mirrored r) c d
relates_mirror Equals a b c d e h = omega (arith, ints)
relates_mirror Differs a b c d e h = λ (s : c ≡ d). h (omega (arith, ints))
relates_mirror Below a b c d e h = omega (arith, ints)
relates_mirror AtMost a b c d e h = omega (arith, ints)
relates_mirror Above a b c d e h = omega (arith, ints)
relates_mirror AtLeast a b c d e h = omega (arith, ints)

pub mirrored_mirrored : (r : Relation) → mirrored (mirrored r) ≡ r
mirrored_mirrored Equals = refl
mirrored_mirrored Differs = refl
mirrored_mirrored Below = refl
mirrored_mirrored AtMost = refl
mirrored_mirrored Above = refl
mirrored_mirrored AtLeast = refl

-- a comparison with v that is true of all numbers below a bound
abbrev pub IsTrueBelow : Relation → Type 0
IsTrueBelow Equals = ⊥
IsTrueBelow Differs = Unit {0}
IsTrueBelow Below = Unit {0}
IsTrueBelow AtMost = Unit {0}
IsTrueBelow Above = ⊥
IsTrueBelow AtLeast = ⊥

-- u is one of the d numbers above the place where the comparison with v begins to be true
abbrev pub Near : Relation → ℤ → ℕ → ℤ → Type 0
Near Equals v d u = ((v -ℤ pos 1) <ℤ u) × (u ≤ℤ ((v -ℤ pos 1) +ℤ pos d))
Near Differs v d u = (v <ℤ u) × (u ≤ℤ (v +ℤ pos d))
Near Below v d u = ⊥
Near AtMost v d u = ⊥
Near Above v d u = (v <ℤ u) × (u ≤ℤ (v +ℤ pos d))
Near AtLeast v d u = ((v -ℤ pos 1) <ℤ u) × (u ≤ℤ ((v -ℤ pos 1) +ℤ pos d))

-- true d below, or near
pub relates_step : (r : Relation) (v u : ℤ) (d : ℕ) → 0 < d → Relates r u v → Relates r (u -ℤ pos d) v ⊎ Near r v d u
relates_step Equals v u d h is = inr (omega (arith, ints), omega (arith, ints))
relates_step Differs v u d h is =
    by_order u (v +ℤ pos d)
    (λ (l : u <ℤ (v +ℤ pos d)). inl (λ (e : u -ℤ pos d ≡ v). omega (arith, ints)))
    (λ (e : u ≡ v +ℤ pos d). inr (omega (arith, ints), omega (arith, ints)))
    (λ (m : (v +ℤ pos d) <ℤ u). inl (λ (e : u -ℤ pos d ≡ v). omega (arith, ints)))
relates_step Below v u d h is = inl (omega (arith, ints))
relates_step AtMost v u d h is = inl (omega (arith, ints))
relates_step Above v u d h is = elim (less_or_at_least v (u -ℤ pos d)) [
  | inl more ↦ inl more
  | inr less ↦ inr (is, omega (arith, ints))
]
relates_step AtLeast v u d h is = elim (less_or_at_least (u -ℤ pos d) v) [
  | inl less ↦ inr (omega (arith, ints), omega (arith, ints))
  | inr more ↦ inl more
]

-- below v the comparison says what it says below all bounds
pub relates_below : (r : Relation) (v u : ℤ) → u <ℤ v → Relates r u v ↔ IsTrueBelow r
relates_below Equals v u h = (λ (e : u ≡ v). omega (arith, ints), λ n. absurd n)
relates_below Differs v u h = (λ n. tt, λ t (e : u ≡ v). omega (arith, ints))
relates_below Below v u h = (λ l. tt, λ t. h)
relates_below AtMost v u h = (λ l. tt, λ t. le_of_lt _ _ h)
relates_below Above v u h = (λ (l : v <ℤ u). omega (arith, ints), λ n. absurd n)
relates_below AtLeast v u h = (λ (l : v ≤ℤ u). omega (arith, ints), λ n. absurd n)

-- a * k + t compared with 0 is c * a * k compared with - c * t
pub line_up : (r : Relation) (c a k t : ℤ) → pos 0 <ℤ c → Relates r (a *ℤ k +ℤ t) (pos 0) ↔ Relates r ((c *ℤ a) *ℤ k) (neg_ℤ c *ℤ t)
line_up r c a k t h = (
  λ is. relates_move r _ _ _ _ (line_up_is c a k t) ((relates_mul r c _ _ h).0 is),
  λ is. (relates_mul r c _ _ h).1 (relates_move r _ _ _ _ (sym (line_up_is c a k t)) is),
)
  where
    line_up_is : (c a k t : ℤ) → c *ℤ (a *ℤ k +ℤ t) -ℤ c *ℤ pos 0 ≡ (c *ℤ a) *ℤ k -ℤ neg_ℤ c *ℤ t
    line_up_is c a k t = simp ring (omega (arith, ints))

-- - a * k + t compared with 0 is c * a * k compared the other way round with c * t
pub line_down : (r : Relation) (c a k t : ℤ) → pos 0 <ℤ c → Relates r (neg_ℤ a *ℤ k +ℤ t) (pos 0) ↔ Relates (mirrored r) ((c *ℤ a) *ℤ k) (c *ℤ t)
line_down r c a k t h = (
  λ is. relates_mirror r _ _ _ _ (line_down_is c a k t) ((relates_mul r c _ _ h).0 is),
  λ is. (relates_mul r c _ _ h).1 (subst (λ s. Relates s (c *ℤ (neg_ℤ a *ℤ k +ℤ t)) (c *ℤ pos 0)) (mirrored_mirrored r) (relates_mirror (mirrored r) _ _ _ _ (line_back_is c a k t) is)),
)
  where
    line_down_is : (c a k t : ℤ) → c *ℤ (neg_ℤ a *ℤ k +ℤ t) -ℤ c *ℤ pos 0 ≡ c *ℤ t -ℤ (c *ℤ a) *ℤ k
    line_down_is c a k t = simp ring (omega (arith, ints))

    line_back_is : (c a k t : ℤ) → (c *ℤ a) *ℤ k -ℤ c *ℤ t ≡ c *ℤ pos 0 -ℤ c *ℤ (neg_ℤ a *ℤ k +ℤ t)
    line_back_is c a k t = simp ring (omega (arith, ints))
