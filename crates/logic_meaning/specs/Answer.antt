-- Answers: where a name of an eliminated quantifier is put, and when the answers make a formula true.
use Rattle.std.specs.Prelude.{◌≡◌, ℕ, ◌*◌, ◌<◌, Bool, true, false, ◌&&◌, ℤ, pos, ◌+ℤ◌, ◌-ℤ◌, ◌*ℤ◌, ◌<ℤ◌, neg_ℤ, List, [], ◌∷◌, nat_eq}
use Rattle.std.specs.Ordering.{int_eq}
use Rattle.logic_meaning.specs.Context.{Context, Fields, Integers}
use Rattle.logic_meaning.specs.Point.{Point, move}
use Rattle.logic_meaning.specs.Form.{Form, value, coefficient}
use Rattle.logic_meaning.specs.Sorted.{IsSorted}
use Rattle.logic_meaning.specs.Same.{same_form}
use Rattle.logic_meaning.specs.Tree.{Tree, TrueAt}

-- where a name is put: at a form over a number, next to it, or beyond all numbers
pub data Place : Type 0 where
  -- the form over the denominator
  Exact : Form → ℕ → Place
  -- an infinitesimal above, or below, the form over the denominator
  AboveBy : Form → ℕ → Place
  BelowBy : Form → ℕ → Place
  -- beyond all numbers
  PlusInfinity : Place
  MinusInfinity : Place
  -- Periodic a q: beyond all numbers among a + q * t
  Periodic : ℤ → ℤ → Place

-- the name is put at the place
pub record Answer : Type 0 where
  pub name : ℕ
  pub place : Place

-- Q t s holds of every fraction t/s with 0 < t/s < u/w, for some positive u/w
abbrev pub Small : (ℕ → ℕ → Type 0) → Type 0
Small Q = (u : ℕ) × (w : ℕ) × 0 < u × 0 < w × ((t s : ℕ) → 0 < t → 0 < s → t * w < u * s → Q t s)

-- Q t s holds of every fraction t/s above some u/w
abbrev pub Large : (ℤ → ℕ → Type 0) → Type 0
Large Q = (u : ℤ) × (w : ℕ) × 0 < w × ((t : ℤ) (s : ℕ) → 0 < s → (u *ℤ pos s) <ℤ (t *ℤ pos w) → Q t s)

-- R holds with the name set to e over d, which over the integers is a whole number
abbrev pub Taken : Context → Form → ℕ → ℕ → (Point ℕ → Type 0) → Point ℕ → Type 0
Taken Fields e d x R p = R (move nat_eq p x (value e p) d)
Taken Integers e d x R p = (k : ℤ) × (value e p ≡ k *ℤ pos d) × R (move nat_eq p x k 1)

-- R holds with the name x put at the place
abbrev pub Meets : Context → Place → ℕ → (Point ℕ → Type 0) → Point ℕ → Type 0
Meets c (Exact e d) x R p = Taken c e d x R p
Meets c (AboveBy e d) x R p = Small (λ t s. R (move nat_eq p x (value e p *ℤ pos s +ℤ pos (t * (p.below * d))) (d * s)))
Meets c (BelowBy e d) x R p = Small (λ t s. R (move nat_eq p x (value e p *ℤ pos s -ℤ pos (t * (p.below * d))) (d * s)))
Meets c PlusInfinity x R p = Large (λ t s. R (move nat_eq p x (t *ℤ pos p.below) s))
Meets c MinusInfinity x R p = Large (λ t s. R (move nat_eq p x (neg_ℤ t *ℤ pos p.below) s))
Meets c (Periodic a q) x R p = (u : ℤ) × ((t : ℤ) → u <ℤ t → R (move nat_eq p x ((a +ℤ q *ℤ t) *ℤ pos p.below) 1))

-- R holds with each name put at its place, in the order of the answers: each place may depend on those before
abbrev pub MeetsAll : Context → List Answer → (Point ℕ → Type 0) → Point ℕ → Type 0
MeetsAll c [] R p = R p
MeetsAll c (a ∷ rest) R p = Meets c a.place a.name (λ q. MeetsAll c rest R q) p

-- the answers make the tree true at the point
abbrev pub Holds : Context → List Answer → Tree → Point ℕ → Type 0
Holds c answers f p = MeetsAll c answers (λ q. TrueAt c f q) p

-- the name stands in the place's form
abbrev pub PlaceMentions : Place → ℕ → Type 0
PlaceMentions (Exact e d) x = ¬ (coefficient x e ≡ pos 0)
PlaceMentions (AboveBy e d) x = ¬ (coefficient x e ≡ pos 0)
PlaceMentions (BelowBy e d) x = ¬ (coefficient x e ≡ pos 0)
PlaceMentions PlusInfinity x = ⊥
PlaceMentions MinusInfinity x = ⊥
PlaceMentions (Periodic a q) x = ⊥

-- the form of the place is sorted
abbrev pub IsSortedPlace : Place → Type 0
IsSortedPlace (Exact e d) = IsSorted e
IsSortedPlace (AboveBy e d) = IsSorted e
IsSortedPlace (BelowBy e d) = IsSorted e
IsSortedPlace PlusInfinity = Unit {0}
IsSortedPlace MinusInfinity = Unit {0}
IsSortedPlace (Periodic a q) = Unit {0}

-- the same place
abbrev pub same_place : Place → Place → Bool
same_place (Exact e c) (Exact f d) = nat_eq c d && same_form e f
same_place (AboveBy e c) (AboveBy f d) = nat_eq c d && same_form e f
same_place (BelowBy e c) (BelowBy f d) = nat_eq c d && same_form e f
same_place PlusInfinity PlusInfinity = true
same_place MinusInfinity MinusInfinity = true
same_place (Periodic a p) (Periodic b q) = int_eq a b && int_eq p q
same_place _ _ = false
