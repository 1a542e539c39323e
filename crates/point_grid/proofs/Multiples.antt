-- Least common multiples, formed one after the other.
use Rattle.std.proofs.Common.{◌≡◌, List, [], ◌∷◌, Some, None, sym, ap, ◌∙◌, subst, arith}
use Rattle.std.proofs.Math.IntN.{ℤ, pos}
use Rattle.std.specs.Prelude.{◌<ℤ◌}
use Rattle.std.specs.List.{AllByRecursion}
use Rattle.std.proofs.lemmas.Int.{ints}
use Rattle.exact_numbers.specs.declared.fraction.Fraction.{Fraction}
use Rattle.exact_numbers.specs.Limit.{InLimit, PastLimit, checked}
use Rattle.exact_numbers.specs.Divides.{Divides, lcm_of}
use Rattle.exact_numbers.proofs.Limits.{checked_past, checked_none, checked_some}
use Rattle.exact_numbers.proofs.Divisibility.{divides_same, divides_trans, divisor_at_most}
use Rattle.exact_numbers.proofs.LeastMultiple.{lcm_is}
use Rattle.exact_numbers.proofs.FractionRule.{lowest_proper}
use Rattle.program_meaning.specs.declared.axis.Axis.{Axis}
use Rattle.program_meaning.specs.GridPoints.{lowest_of, multiple_with, multiple_of, common}
use Rattle.point_grid.specs.Steps.{IsRising, HasSteps}

-- n is a positive multiple of m
pub record Grows (m n : ℤ) : Type 0 where
  pub positive : pos 0 <ℤ n
  pub multiple : Divides m n

pub grows_same : (m : ℤ) → pos 0 <ℤ m → Grows m m
grows_same m h = record { positive = h; multiple = divides_same m }

pub grows_on : (m n k : ℤ) → Grows m n → Grows n k → Grows m k
grows_on m n k a b = record { positive = b.positive; multiple = divides_trans a.multiple b.multiple }

pub lcm_grows : (m d : ℤ) → pos 0 <ℤ m → pos 0 <ℤ d → Grows m (lcm_of m d)
lcm_grows m d h k = let l = lcm_is h k in record { positive = l.positive; multiple = l.left }

pub past_on : (m n : ℤ) → pos 0 <ℤ m → Grows m n → PastLimit m → PastLimit n
past_on m n h g p = let a = divisor_at_most g.positive g.multiple in let b = g.positive in omega (arith, ints)

-- where a number passes the limit, its positive multiples do
pub none_on : (m n : ℤ) → pos 0 <ℤ m → Grows m n → None ≡ checked m → None ≡ checked n
none_on m n h g e = sym (checked_past n (past_on m n h g (checked_none m (sym e))))

below_positive : (f : Fraction) → pos 0 <ℤ (lowest_of f).denominator
below_positive f = lowest_proper f.numerator f.denominator f.positive

pub record Steps (m : ℤ) (a : Axis) : Type 0 where
  pub first : Grows m (lcm_of m (lowest_of a.low).denominator)
  pub second : Grows (lcm_of m (lowest_of a.low).denominator) (lcm_of (lcm_of m (lowest_of a.low).denominator) (lowest_of a.high).denominator)
  pub third : Grows (lcm_of (lcm_of m (lowest_of a.low).denominator) (lowest_of a.high).denominator) (multiple_with m a)
  pub step : Divides (lowest_of a.step).denominator (multiple_with m a)

pub steps : (m : ℤ) (a : Axis) → pos 0 <ℤ m → Steps m a
unfolding multiple_with
steps m a h =
    let f = lcm_grows m (lowest_of a.low).denominator h (below_positive a.low) in
    let s = lcm_grows (lcm_of m (lowest_of a.low).denominator) (lowest_of a.high).denominator f.positive (below_positive a.high) in
    let l = lcm_is s.positive (below_positive a.step) in
    record { first = f; second = s; third = record { positive = l.positive; multiple = l.left }; step = l.right }

pub with_grows : (m : ℤ) (a : Axis) → pos 0 <ℤ m → Grows m (multiple_with m a)
with_grows m a h = let s = steps m a h in grows_on _ _ _ s.first (grows_on _ _ _ s.second s.third)

pub of_grows : (m : ℤ) (axes : List Axis) → pos 0 <ℤ m → Grows m (multiple_of m axes)
unfolding multiple_of
of_grows m [] h = grows_same m h
of_grows m (a ∷ axes) h = let g = with_grows m a h in grows_on m (multiple_with m a) (multiple_of (multiple_with m a) axes) g (of_grows (multiple_with m a) axes g.positive)

-- the multiple of all is one of the step of each
pub have_steps : (m : ℤ) (axes : List Axis) → pos 0 <ℤ m → AllByRecursion IsRising axes → AllByRecursion (HasSteps (multiple_of m axes)) axes
unfolding multiple_of
have_steps m [] h r = tt
have_steps m (a ∷ axes) h r =
    let g = with_grows m a h in
    (record { rising = r.0; multiple = divides_trans (steps m a h).step (of_grows (multiple_with m a) axes g.positive).multiple }, have_steps (multiple_with m a) axes g.positive r.1)

pub with_next : (m : ℤ) (a : Axis) → multiple_with m a ≡ lcm_of (lcm_of (lcm_of m (lowest_of a.low).denominator) (lowest_of a.high).denominator) (lowest_of a.step).denominator
unfolding multiple_with
with_next m a = λ i. multiple_with m a

-- ---- one axis, with the numbers that the code has

pub first_none : (m : ℤ) (a : Axis) (d : ℤ) → pos 0 <ℤ m → d ≡ (lowest_of a.low).denominator → None ≡ checked (lcm_of m d) → None ≡ checked (multiple_with m a)
first_none m a d h e f =
    let s = steps m a h in
    let g = grows_on _ _ _ s.second s.third in
    none_on (lcm_of m (lowest_of a.low).denominator) (multiple_with m a) s.first.positive g (subst (λ (z : ℤ). None ≡ checked (lcm_of m z)) e f)

-- what the first one gives
formed : (m d e w : ℤ) → d ≡ e → Some w ≡ checked (lcm_of m d) → w ≡ lcm_of m e
formed m d e w s f = sym (checked_some (lcm_of m d) w (sym f)).0 ∙ ap (lcm_of m) s

pub second_none : (m : ℤ) (a : Axis) (d e w : ℤ) → pos 0 <ℤ m → d ≡ (lowest_of a.low).denominator → e ≡ (lowest_of a.high).denominator → Some w ≡ checked (lcm_of m d) → None ≡ checked (lcm_of w e) → None ≡ checked (multiple_with m a)
second_none m a d e w h p q f g =
    let s = steps m a h in
    let k = formed m d (lowest_of a.low).denominator w p f in
    none_on (lcm_of (lcm_of m (lowest_of a.low).denominator) (lowest_of a.high).denominator) (multiple_with m a) s.second.positive s.third
    (subst (λ (z : ℤ). None ≡ checked (lcm_of z (lowest_of a.high).denominator)) k (subst (λ (z : ℤ). None ≡ checked (lcm_of w z)) q g))

pub third_made : (m : ℤ) (a : Axis) (d e f w v : ℤ) → d ≡ (lowest_of a.low).denominator → e ≡ (lowest_of a.high).denominator → f ≡ (lowest_of a.step).denominator → Some w ≡ checked (lcm_of m d) → Some v ≡ checked (lcm_of w e) → checked (lcm_of v f) ≡ checked (multiple_with m a)
third_made m a d e f w v p q r s t =
    let k = formed m d (lowest_of a.low).denominator w p s in
    let l = formed w e (lowest_of a.high).denominator v q t ∙ ap (λ (z : ℤ). lcm_of z (lowest_of a.high).denominator) k in
    ap (λ (z : ℤ). checked (lcm_of z f)) l ∙ ap (λ (z : ℤ). checked (lcm_of (lcm_of (lcm_of m (lowest_of a.low).denominator) (lowest_of a.high).denominator) z)) r
    ∙ ap checked (sym (with_next m a))

-- what one axis gives within the limit
pub within_of : (m w : ℤ) → Some w ≡ checked m → InLimit w
within_of m w e = let c = checked_some m w (sym e) in subst (λ (z : ℤ). InLimit z) c.0 c.1

-- the next axis of the loop
pub next_multiple : (m w : ℤ) (a : Axis) (axes : List Axis) (all : ℤ) → multiple_of m (a ∷ axes) ≡ all → Some w ≡ checked (multiple_with m a) → multiple_of w axes ≡ all
unfolding multiple_of
next_multiple m w a axes all e f = ap (λ (z : ℤ). multiple_of z axes) (sym (checked_some (multiple_with m a) w (sym f)).0) ∙ e

pub next_positive : (m w : ℤ) (a : Axis) → pos 0 <ℤ m → Some w ≡ checked (multiple_with m a) → pos 0 <ℤ w
next_positive m w a h f = subst (λ (z : ℤ). pos 0 <ℤ z) (checked_some (multiple_with m a) w (sym f)).0 (with_grows m a h).positive

pub next_none : (m : ℤ) (a : Axis) (axes : List Axis) (all : ℤ) → pos 0 <ℤ m → multiple_of m (a ∷ axes) ≡ all → None ≡ checked (multiple_with m a) → None ≡ checked all
unfolding multiple_of
next_none m a axes all h e f =
    let g = with_grows m a h in
    subst (λ (z : ℤ). None ≡ checked z) e (none_on (multiple_with m a) (multiple_of (multiple_with m a) axes) g.positive (of_grows (multiple_with m a) axes g.positive) f)

pub none_left : (m all : ℤ) → multiple_of m [] ≡ all → m ≡ all
unfolding multiple_of
none_left m all e = e

pub common_positive : (axes : List Axis) → pos 0 <ℤ common axes
common_positive axes = let h : pos 0 <ℤ pos 1 = omega (arith, ints) in (of_grows (pos 1) axes h).positive

pub common_steps : (axes : List Axis) → AllByRecursion IsRising axes → AllByRecursion (HasSteps (common axes)) axes
common_steps axes r = let h : pos 0 <ℤ pos 1 = omega (arith, ints) in have_steps (pos 1) axes h r
