-- Rising lists of terms.
use Rattle.std.proofs.Common.{◌≡◌, ◌<◌, inl, inr, ℕ, List, [], ◌∷◌, ◌++◌, refl, arith}
use Rattle.std.proofs.Math.IntN.{pos}
use Rattle.std.proofs.lemmas.Int.{ints}
use Rattle.exact_numbers.specs.Limit.{InLimit}
use Rattle.exact_numbers.proofs.Ring.{zero_mul}
use Rattle.logic_meaning.specs.Form.{Term}
use Rattle.logic_meaning.specs.Sorted.{AllAbove, IsRising, AllNonzero}
use Rattle.logic_meaning.specs.Terms.{AllInLimit}
use Rattle.linear_forms.specs.Merging.{FirstIs, IsNext, Precede, IsPeeled}

pub above_push : (x : ℕ) (ts : List Term) (t : Term) → AllAbove x ts → x < t.name → AllAbove x (ts ++ t ∷ [])
above_push x [] t a h = (h, tt)
above_push x (s ∷ ts) t a h = (a.0, above_push x ts t a.1 h)

pub rising_push : (ts : List Term) (t : Term) → IsRising ts → Precede ts (t ∷ []) → IsRising (ts ++ t ∷ [])
rising_push [] t r p = (tt, tt)
rising_push (s ∷ ts) t r p = (above_push s.name ts t r.0 p.0.0, rising_push ts t r.1 p.1)

pub nonzero_push : (ts : List Term) (t : Term) → AllNonzero ts → ¬ (t.times ≡ pos 0) → AllNonzero (ts ++ t ∷ [])
nonzero_push [] t a h = (h, tt)
nonzero_push (s ∷ ts) t a h = (a.0, nonzero_push ts t a.1 h)

pub within_push : (ts : List Term) (t : Term) → AllInLimit ts → InLimit t.times → AllInLimit (ts ++ t ∷ [])
within_push [] t a h = (h, tt)
within_push (s ∷ ts) t a h = (a.0, within_push ts t a.1 h)

-- ---- one list before another

pub precede_push : (ms : List Term) (t : Term) (xs : List Term) → Precede ms xs → AllAbove t.name xs → Precede (ms ++ t ∷ []) xs
precede_push [] t xs p a = (a, tt)
precede_push (m ∷ ms) t xs p a = (p.0, precede_push ms t xs p.1 a)

pub precede_tail : (ms : List Term) (t : Term) (xs : List Term) → Precede ms (t ∷ xs) → Precede ms xs
precede_tail [] t xs p = tt
precede_tail (m ∷ ms) t xs p = (p.0.1, precede_tail ms t xs p.1)

pub precede_nothing : (ms : List Term) → Precede ms []
precede_nothing [] = tt
precede_nothing (m ∷ ms) = (tt, precede_nothing ms)

-- what precedes a list with the first name x precedes a term of the name x
pub precede_first : (ms : List Term) (xs : List Term) (t : Term) → FirstIs t.name xs → Precede ms xs → Precede ms (t ∷ [])
precede_first [] xs t f p = tt
precede_first (m ∷ ms) [] t f p = absurd f
precede_first (m ∷ ms) (x ∷ xs) t f p = let a = p.0.0 in let e : x.name ≡ t.name = f in ((omega arith, tt), precede_first ms (x ∷ xs) t f p.1)

pub precede_next : (ms xs ys : List Term) (t : Term) → IsNext t.name xs ys → Precede ms xs → Precede ms ys → Precede ms (t ∷ [])
precede_next ms xs ys t n p q = elim n.stands [ inl f ↦ precede_first ms xs t f p | inr f ↦ precede_first ms ys t f q ]

-- ---- the first term of a rising list

pub peel_first : (t : Term) (ts : List Term) → IsRising (t ∷ ts) → IsPeeled (t ∷ ts) t.name t.times ts
peel_first t ts r = record { sums = λ at. refl; above = r.0; rising = r.1; kept = λ ms p. precede_tail ms t ts p }

-- a list that begins above x has no multiple of x
pub peel_none : (x : ℕ) (ts : List Term) → AllAbove x ts → IsRising ts → IsPeeled ts x (pos 0) ts
peel_none x ts a r = record { sums = λ at. let z = zero_mul (at x) in omega (arith, ints); above = a; rising = r; kept = λ ms p. p }
