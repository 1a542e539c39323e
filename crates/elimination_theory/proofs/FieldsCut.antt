-- Where the interval of a test point begins, seen from its side: everywhere, from a fraction on, or after it.
use Rattle.std.proofs.Common.{◌≡◌, ℕ, arith, ◌⊎◌, inl, inr, ◌↔◌}
use Rattle.std.proofs.Math.IntN.{ℤ, pos, ◌*ℤ◌}
use Rattle.std.specs.Prelude.{◌<ℤ◌, ◌≤ℤ◌}
use Rattle.std.proofs.lemmas.Int.{ints}
use Rattle.exact_numbers.proofs.Order.{by_less, by_order}
use Rattle.logic_meaning.specs.Atom.{Relation, Equals, Differs, Below, AtMost, Above, AtLeast, Relates}
use Rattle.logic_meaning.specs.Side.{turned}
use Rattle.logic_meaning.specs.declared.side.Side.{Side}
use Rattle.logic_meaning.specs.declared.side.Side.TheVariants.{Lower, Upper}
use Rattle.elimination_theory.proofs.Fractions.{at_most_less, less_at_most, at_most_at_most}

-- a stands before b for one who comes from the side
abbrev pub Before : Side → ℤ → ℤ → Type 0
Before Lower a b = a <ℤ b
Before Upper a b = b <ℤ a

abbrev pub NotAfter : Side → ℤ → ℤ → Type 0
NotAfter Lower a b = a ≤ℤ b
NotAfter Upper a b = b ≤ℤ a

pub same_not_after : (side : Side) (a b : ℤ) → a ≡ b → NotAfter side a b
same_not_after Lower a b e = omega (arith, ints)
same_not_after Upper a b e = omega (arith, ints)

pub before_not_after : (side : Side) (a b : ℤ) → Before side a b → NotAfter side a b
before_not_after Lower a b e = omega (arith, ints)
before_not_after Upper a b e = omega (arith, ints)

pub before_differs : (side : Side) (a b : ℤ) → Before side a b → ¬ (a ≡ b)
before_differs Lower a b h e = absurd (omega (arith, ints))
before_differs Upper a b h e = absurd (omega (arith, ints))

pub both_not_after : (side : Side) (a b : ℤ) → NotAfter side a b → NotAfter side b a → a ≡ b
both_not_after Lower a b h k = omega (arith, ints)
both_not_after Upper a b h k = omega (arith, ints)

pub by_before : {P : Type 0} (side : Side) (a b : ℤ) → (Before side a b → P) → (NotAfter side b a → P) → P
by_before Lower a b f g = by_less a b f g
by_before Upper a b f g = by_less b a f g

pub by_sides : {P : Type 0} (side : Side) (a b : ℤ) → (Before side a b → P) → (a ≡ b → P) → (Before side b a → P) → P
by_sides Lower a b f g h = by_order a b f g h
by_sides Upper a b f g h = by_order a b h g f

module _ (side : Side) (a b c d e f : ℤ) (pb : pos 0 <ℤ b) (pd : pos 0 <ℤ d) (pf : pos 0 <ℤ f) where
  -- a/b not after c/d, which is before e/f
  pub not_after_before : NotAfter side (a *ℤ d) (c *ℤ b) → Before side (c *ℤ f) (e *ℤ d) → Before side (a *ℤ f) (e *ℤ b)
  not_after_before = elim side as (λ s. NotAfter s (a *ℤ d) (c *ℤ b) → Before s (c *ℤ f) (e *ℤ d) → Before s (a *ℤ f) (e *ℤ b)) [
    | Lower ↦ λ h k. at_most_less a b c d e f pb pd pf h k
    | Upper ↦ λ h k. less_at_most e f c d a b pf pd pb k h
  ]

  pub before_not_after_before : Before side (a *ℤ d) (c *ℤ b) → NotAfter side (c *ℤ f) (e *ℤ d) → Before side (a *ℤ f) (e *ℤ b)
  before_not_after_before = elim side as (λ s. Before s (a *ℤ d) (c *ℤ b) → NotAfter s (c *ℤ f) (e *ℤ d) → Before s (a *ℤ f) (e *ℤ b)) [
    | Lower ↦ λ h k. less_at_most a b c d e f pb pd pf h k
    | Upper ↦ λ h k. at_most_less e f c d a b pf pd pb k h
  ]

  pub not_after_not_after : NotAfter side (a *ℤ d) (c *ℤ b) → NotAfter side (c *ℤ f) (e *ℤ d) → NotAfter side (a *ℤ f) (e *ℤ b)
  not_after_not_after = elim side as (λ s. NotAfter s (a *ℤ d) (c *ℤ b) → NotAfter s (c *ℤ f) (e *ℤ d) → NotAfter s (a *ℤ f) (e *ℤ b)) [
    | Lower ↦ λ h k. at_most_at_most a b c d e f pb pd pf h k
    | Upper ↦ λ h k. at_most_at_most e f c d a b pf pd pb k h
  ]

-- a relation as the side sees it
abbrev pub Seen : Side → Relation → ℤ → ℤ → Type 0
Seen side Equals a b = a ≡ b
Seen side Differs a b = ¬ (a ≡ b)
Seen side Below a b = Before side a b
Seen side AtMost a b = NotAfter side a b
Seen side Above a b = Before side b a
Seen side AtLeast a b = NotAfter side b a

pub seen : (side : Side) (r : Relation) (a b : ℤ) → Relates r a b ↔ Seen side (turned side r) a b
seen Lower Equals a b = (λ h. h, λ h. h)
seen Lower Differs a b = (λ h. h, λ h. h)
seen Lower Below a b = (λ h. h, λ h. h)
seen Lower AtMost a b = (λ h. h, λ h. h)
seen Lower Above a b = (λ h. h, λ h. h)
seen Lower AtLeast a b = (λ h. h, λ h. h)
seen Upper Equals a b = (λ h. h, λ h. h)
seen Upper Differs a b = (λ h. h, λ h. h)
seen Upper Below a b = (λ h. h, λ h. h)
seen Upper AtMost a b = (λ h. h, λ h. h)
seen Upper Above a b = (λ h. h, λ h. h)
seen Upper AtLeast a b = (λ h. h, λ h. h)

pub data Cut : Type 0 where
  Everywhere : Cut
  From : ℤ → ℕ → Cut
  After : ℤ → ℕ → Cut

-- the denominator is positive
abbrev pub IsProper : Cut → Type 0
IsProper Everywhere = Unit {0}
IsProper (From n d) = pos 0 <ℤ pos d
IsProper (After n d) = pos 0 <ℤ pos d

-- the fraction k/m is in the interval that begins at the cut
abbrev pub Covers : Side → Cut → ℤ → ℕ → Type 0
Covers side Everywhere k m = Unit {0}
Covers side (From n d) k m = NotAfter side (n *ℤ pos m) (k *ℤ pos d)
Covers side (After n d) k m = Before side (n *ℤ pos m) (k *ℤ pos d)

-- every positive fraction that one cut covers, another covers
abbrev pub Within : Side → Cut → Cut → Type 0
Within side s t = (k : ℤ) (m : ℕ) → pos 0 <ℤ pos m → Covers side s k m → Covers side t k m

-- of two cuts one begins within the other
pub one_within : (side : Side) (s t : Cut) → IsProper s → IsProper t → Within side s t ⊎ Within side t s
one_within side Everywhere t p q = inr (λ k m h u. tt)
one_within side (From n d) Everywhere p q = inl (λ k m h u. tt)
one_within side (After n d) Everywhere p q = inl (λ k m h u. tt)
one_within side (From a b) (From c d) p q =
    by_before side (a *ℤ pos d) (c *ℤ pos b)
    (λ l. inr (λ k m h u. not_after_not_after side a (pos b) c (pos d) k (pos m) p q h (before_not_after side _ _ l) u))
    (λ l. inl (λ k m h u. not_after_not_after side c (pos d) a (pos b) k (pos m) q p h l u))
one_within side (From a b) (After c d) p q =
    by_before side (c *ℤ pos b) (a *ℤ pos d)
    (λ l. inl (λ k m h u. before_not_after_before side c (pos d) a (pos b) k (pos m) q p h l u))
    (λ l. inr (λ k m h u. not_after_not_after side a (pos b) c (pos d) k (pos m) p q h l (before_not_after side _ _ u)))
one_within side (After a b) (From c d) p q =
    by_before side (a *ℤ pos d) (c *ℤ pos b)
    (λ l. inr (λ k m h u. before_not_after_before side a (pos b) c (pos d) k (pos m) p q h l u))
    (λ l. inl (λ k m h u. not_after_not_after side c (pos d) a (pos b) k (pos m) q p h l (before_not_after side _ _ u)))
one_within side (After a b) (After c d) p q =
    by_before side (a *ℤ pos d) (c *ℤ pos b)
    (λ l. inr (λ k m h u. not_after_before side a (pos b) c (pos d) k (pos m) p q h (before_not_after side _ _ l) u))
    (λ l. inl (λ k m h u. not_after_before side c (pos d) a (pos b) k (pos m) q p h l u))

-- what begins after a cut stays after it
pub covers_on : (side : Side) (s : Cut) (j : ℤ) (n : ℕ) (i : ℤ) (l : ℕ) → IsProper s → pos 0 <ℤ pos n → pos 0 <ℤ pos l → Covers side s j n → NotAfter side (j *ℤ pos l) (i *ℤ pos n) → Covers side s i l
covers_on side Everywhere j n i l h pn pl c f = tt
covers_on side (From v d) j n i l h pn pl c f = not_after_not_after side v (pos d) j (pos n) i (pos l) h pn pl c f
covers_on side (After v d) j n i l h pn pl c f = before_not_after_before side v (pos d) j (pos n) i (pos l) h pn pl c f
