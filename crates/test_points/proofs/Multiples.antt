-- The scale and the span, computed from the last atom on.
use Rattle.std.proofs.Common.{◌≡◌, ℕ, zero, suc, ◌<◌, ◌≤◌, ◌*◌, ◌/◌, List, [], ◌∷◌, ◌++◌, Option, sym, ap, ap₂, ◌∙◌, subst, refl, arith, unsigned_abs}
use Rattle.std.proofs.Math.IntN.{ℤ, pos, negsuc}
use Rattle.std.specs.Prelude.{◌<ℤ◌, ◌≤ℤ◌}
use Rattle.std.proofs.lemmas.Int.{ints}
use Rattle.exact_numbers.specs.Limit.{InLimit, PastLimit, checked}
use Rattle.exact_numbers.specs.Divides.{Divides, lcm_of}
use Rattle.exact_numbers.proofs.LeastMultiple.{lcm_is}
use Rattle.exact_numbers.proofs.Limits.{match_checked}
use Rattle.elimination_theory.proofs.LowestTerms.{natural}
use Rattle.std.specs.Option.{MatchOption}
use Rattle.exact_numbers.proofs.Divisibility.{divisor_at_most}
use Rattle.logic_meaning.specs.Context.{Integers}
use Rattle.logic_meaning.specs.Form.{coefficient}
use Rattle.logic_meaning.specs.Some.{EachOf}
use Rattle.logic_meaning.specs.Atom.{Atom, Compare, Congruent, form_of}
use Rattle.formula_laws.specs.TheoryAtoms.{AtomIn}
use Rattle.logic_meaning.specs.IntegersPoints.{common_multiple, with_coefficient, with_modulus, scale_of, span_of}
use Rattle.elimination_theory.proofs.IntegerScale.{common_positive, common_left, common_right, multiplied_positive}
use Rattle.test_points.specs.Periods.{IsReached, with_span}

divisor_below : (d m : ℕ) → 0 < m → Divides (pos d) (pos m) → d ≤ m
divisor_below d m h e = let k : pos d ≤ℤ pos m = divisor_at_most (let p : pos 0 <ℤ pos m = omega (arith, ints) in p) e in omega (arith, ints)

-- a number and its common multiples with others
pub record Grows (n m : ℕ) : Type 0 where
  pub at_least : n ≤ m
  pub positive : 0 < m

pub common_grows : (m n : ℕ) → 0 < m → 0 < n → Grows n (common_multiple m n)
common_grows m n h k = let p = common_positive m n h k in record { at_least = divisor_below n (common_multiple m n) p (common_right m n h k); positive = p }

pub common_reaches : (m n : ℕ) → 0 < m → 0 < n → m ≤ common_multiple m n
common_reaches m n h k = divisor_below m (common_multiple m n) (common_positive m n h k) (common_left m n h k)

pub coefficient_grows : (c : ℤ) (n : ℕ) → 0 < n → Grows n (with_coefficient c n)
coefficient_grows (pos zero) n h = record { at_least = omega arith; positive = h }
coefficient_grows (pos (suc a)) n h = common_grows (suc a) n (omega arith) h
coefficient_grows (negsuc a) n h = common_grows (suc a) n (omega arith) h

pub modulus_grows : (l m : ℕ) (c : ℤ) (n : ℕ) → 0 < l → 0 < m → IsReached l c → 0 < n → Grows n (with_modulus l m c n)
modulus_grows l m (pos zero) n hl hm r h = record { at_least = omega arith; positive = h }
modulus_grows l m (pos (suc a)) n hl hm r h = common_grows (m * (l / suc a)) n (multiplied_positive l m a hl hm r) h
modulus_grows l m (negsuc a) n hl hm r h = common_grows (m * (l / suc a)) n (multiplied_positive l m a hl hm r) h

pub span_grows : (l x : ℕ) (a : Atom) (n : ℕ) → 0 < l → AtomIn Integers a → IsReached l (coefficient x (form_of a)) → 0 < n → Grows n (with_span l x a n)
span_grows l x (Compare r f) n hl i r' h = record { at_least = omega arith; positive = h }
span_grows l x (Congruent b m f) n hl i r h = modulus_grows l m (coefficient x f) n hl i r h

-- ---- the scale

-- the common multiple of n and of the coefficients of all atoms
abbrev pub scale_from : ℕ → ℕ → List Atom → ℕ
scale_from x n [] = n
scale_from x n (a ∷ atoms) = with_coefficient (coefficient x (form_of a)) (scale_from x n atoms)

pub scale_from_one : (x : ℕ) (atoms : List Atom) → scale_from x 1 atoms ≡ scale_of x atoms
scale_from_one x [] = refl
scale_from_one x (a ∷ atoms) = ap (with_coefficient (coefficient x (form_of a))) (scale_from_one x atoms)

pub scale_push : (x n : ℕ) (atoms : List Atom) (a : Atom) → scale_from x n (atoms ++ a ∷ []) ≡ scale_from x (with_coefficient (coefficient x (form_of a)) n) atoms
scale_push x n [] a = refl
scale_push x n (b ∷ atoms) a = ap (with_coefficient (coefficient x (form_of b))) (scale_push x n atoms a)

pub scale_grows : (x n : ℕ) (atoms : List Atom) → 0 < n → Grows n (scale_from x n atoms)
scale_grows x n [] h = record { at_least = omega arith; positive = h }
scale_grows x n (a ∷ atoms) h =
    let g = scale_grows x n atoms h in
    let k = coefficient_grows (coefficient x (form_of a)) (scale_from x n atoms) g.positive in
    let i = g.at_least in let j = k.at_least in
    record { at_least = omega arith; positive = k.positive }

-- ---- the span

abbrev pub span_from : ℕ → ℕ → ℕ → List Atom → ℕ
span_from l x n [] = n
span_from l x n (a ∷ atoms) = with_span l x a (span_from l x n atoms)

pub span_from_scale : (l x : ℕ) (atoms : List Atom) → span_from l x l atoms ≡ span_of l x atoms
span_from_scale l x [] = refl
span_from_scale l x (Compare r f ∷ atoms) = span_from_scale l x atoms
span_from_scale l x (Congruent b m f ∷ atoms) = ap (with_modulus l m (coefficient x f)) (span_from_scale l x atoms)

pub span_push : (l x n : ℕ) (atoms : List Atom) (a : Atom) → span_from l x n (atoms ++ a ∷ []) ≡ span_from l x (with_span l x a n) atoms
span_push l x n [] a = refl
span_push l x n (b ∷ atoms) a = ap (with_span l x b) (span_push l x n atoms a)

-- the atoms of the integers whose coefficients the scale reaches
abbrev pub IsSpanned : ℕ → ℕ → Atom → Type 0
IsSpanned l x a = AtomIn Integers a × IsReached l (coefficient x (form_of a))

pub spans_grow : (l x n : ℕ) (atoms : List Atom) → 0 < l → EachOf (IsSpanned l x) atoms → 0 < n → Grows n (span_from l x n atoms)
spans_grow l x n [] hl e h = record { at_least = omega arith; positive = h }
spans_grow l x n (a ∷ atoms) hl e h =
    let g = spans_grow l x n atoms hl e.1 h in
    let k = span_grows l x a (span_from l x n atoms) hl e.0.0 e.0.1 g.positive in
    let i = g.at_least in let j = k.at_least in
    record { at_least = omega arith; positive = k.positive }

pub past_grows : (n m k : ℕ) → Grows n m → m ≡ k → PastLimit (pos n) → PastLimit (pos k)
past_grows n m k g e p = let a = g.at_least in omega arith

-- ---- one modulus

pub modulus_is : (l m : ℕ) (c : ℤ) (n : ℕ) → ¬ (c ≡ pos 0) → with_modulus l m c n ≡ common_multiple (m * (l / unsigned_abs c)) n
modulus_is l m (pos zero) n h = absurd (h refl)
modulus_is l m (pos (suc a)) n h = refl
modulus_is l m (negsuc a) n h = refl

pub reached_divides : (l : ℕ) (c : ℤ) → IsReached l c → ¬ (c ≡ pos 0) → Divides (pos (unsigned_abs c)) (pos l)
reached_divides l (pos zero) r h = absurd (h refl)
reached_divides l (pos (suc a)) r h = r
reached_divides l (negsuc a) r h = r

-- the multiplied modulus
pub record IsFactor (l m : ℕ) (c : ℤ) (f : ℤ) : Type 0 where
  pub value : f ≡ pos (l / unsigned_abs c)
  pub positive : 0 < m * (l / unsigned_abs c)

pub factor_is : (l m : ℕ) (c : ℤ) (f : ℤ) → 0 < l → 0 < m → IsReached l c → ¬ (c ≡ pos 0) → f ≡ pos (l / unsigned_abs c) → IsFactor l m c f
factor_is l m (pos zero) f hl hm r h e = absurd (h refl)
factor_is l m (pos (suc a)) f hl hm r h e = record { value = e; positive = multiplied_positive l m a hl hm r }
factor_is l m (negsuc a) f hl hm r h e = record { value = e; positive = multiplied_positive l m a hl hm r }

common_is : (m n : ℕ) → 0 < m → 0 < n → lcm_of (pos m) (pos n) ≡ pos (common_multiple m n)
common_is m n h k =
    let a : pos 0 <ℤ pos m = omega (arith, ints) in let b : pos 0 <ℤ pos n = omega (arith, ints) in
    natural (lcm_of (pos m) (pos n)) (let p = (lcm_is a b).positive in omega (arith, ints))

pub multiple_found : (o : Option ℤ) (l m n : ℕ) (c a b : ℤ) → ¬ (c ≡ pos 0) → 0 < m * (l / unsigned_abs c) → 0 < n → a ≡ pos (m * (l / unsigned_abs c)) → b ≡ pos n → o ≡ checked (lcm_of a b) →
    MatchOption o (PastLimit (pos (with_modulus l m c n))) (λ k. (k ≡ pos (with_modulus l m c n)) × InLimit k)
multiple_found o l m n c a b h hm hn e f g =
    let v : lcm_of a b ≡ pos (with_modulus l m c n) = ap₂ lcm_of e f ∙ common_is (m * (l / unsigned_abs c)) n hm hn ∙ ap pos (sym (modulus_is l m c n h)) in
    match_checked o (pos (with_modulus l m c n)) (λ k. (k ≡ pos (with_modulus l m c n)) × InLimit k) (g ∙ ap checked v) (λ w. (refl, w))

pub multiple_refused : (l m n : ℕ) (c a : ℤ) → ¬ (c ≡ pos 0) → 0 < m * (l / unsigned_abs c) → 0 < n → a ≡ pos (m * (l / unsigned_abs c)) → PastLimit a → PastLimit (pos (with_modulus l m c n))
multiple_refused l m n c a h hm hn e p =
    let k = common_reaches (m * (l / unsigned_abs c)) n hm hn in
    let q : PastLimit (pos (m * (l / unsigned_abs c))) = subst PastLimit e p in
    subst (λ (z : ℕ). PastLimit (pos z)) (sym (modulus_is l m c n h)) (omega arith)
