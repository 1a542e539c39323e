-- How many steps there are in a span, and axes over a denominator.
use Rattle.std.proofs.Common.{◌≡◌, ℕ, ◌+◌, ◌*◌, ◌/◌, ◌<◌, ◌≤◌, ◌↔◌, Some, None, Option, MatchOption, true, false, refl, sym, ap, ◌∙◌, subst, arith, inl, inr}
use Rattle.std.proofs.Math.IntN.{ℤ, pos, ◌+ℤ◌, ◌-ℤ◌, ◌*ℤ◌}
use Rattle.std.specs.Prelude.{◌<ℤ◌, ◌≤ℤ◌, unsigned_abs, int_div, int_lt}
use Rattle.std.proofs.Math.Nat.{div-mul-le_self, mul-le-mul_right}
use Rattle.std.proofs.lemmas.Bool.{cases_lt}
use Rattle.std.proofs.lemmas.Int.{ints}
use Rattle.exact_numbers.specs.Limit.{InLimit, PastLimit, checked}
use Rattle.exact_numbers.specs.Divides.{Divides, gcd_of}
use Rattle.exact_numbers.specs.Frac.{lowest}
use Rattle.exact_numbers.proofs.Limits.{checked_none, checked_some}
use Rattle.exact_numbers.proofs.Order.{by_less, mul_positive, factor_positive}
use Rattle.exact_numbers.proofs.LeastMultiple.{exact_div}
use Rattle.exact_numbers.proofs.GreatestDivisor.{gcd_is, gcd_positive}
use Rattle.exact_numbers.proofs.FractionRule.{lowest_proper}
use Rattle.program_meaning.specs.declared.axis.Axis.{Axis}
use Rattle.program_meaning.specs.declared.scale.Scale.{Scale}
use Rattle.program_meaning.specs.Counts.{count_of}
use Rattle.point_grid.specs.ScaleWithin.{IsWithin}
use Rattle.program_meaning.specs.GridPoints.{lowest_of, over, scale_of, AxisPasses, AxisFits}
use Rattle.point_grid.specs.Steps.{IsRising}

pub count_below : (span : ℤ) (t : ℕ) → span <ℤ pos 0 → count_of span t ≡ 0
unfolding count_of
count_below span t h = let e : int_lt span (pos 0) ≡ true = grind (arith, ints) in rw e refl

pub count_above : (span : ℤ) (t : ℕ) → pos 0 ≤ℤ span → count_of span t ≡ unsigned_abs span / t + 1
unfolding count_of
count_above span t h = let e : int_lt span (pos 0) ≡ false = grind (arith, ints) in rw e (omega arith)

-- the multiples of the step that are at most the span are those with an index below the count
multiple_below : (i s t : ℕ) → i < s / t + 1 → i * t ≤ s
multiple_below i s t h = let a = div-mul-le_self s t in let b = mul-le-mul_right t (let k : i ≤ s / t = omega arith in k) in omega arith

past_multiple : (i s t : ℕ) → 0 < t → i * t ≤ s → s / t + 1 ≤ i → ⊥
past_multiple i s t h k g =
    let b = mul-le-mul_right t g in
    let f : (s / t + 1) * t ≡ (s / t) * t + t = omega arith in
    let l : s < (s / t) * t + t = omega arith in omega arith

below_multiple : (i s t : ℕ) → 0 < t → i * t ≤ s → i < s / t + 1
below_multiple i s t h k = elim (cases_lt i (s / t + 1)) [ inl l ↦ l | inr g ↦ absurd (past_multiple i s t h k g) ]

pub count_is : (span : ℤ) (t i : ℕ) → 0 < t → (i < count_of span t) ↔ (pos (i * t) ≤ℤ span)
count_is span t i h =
    by_less span (pos 0)
    (λ (n : span <ℤ pos 0). let e = count_below span t n in (λ (k : i < count_of span t). absurd (omega arith), λ (k : pos (i * t) ≤ℤ span). absurd (omega (arith, ints))))
    (λ (n : pos 0 ≤ℤ span).
    let e = count_above span t n in (
      λ (k : i < count_of span t). let b = multiple_below i (unsigned_abs span) t (omega arith) in omega (arith, ints),
      λ (k : pos (i * t) ≤ℤ span). let b = below_multiple i (unsigned_abs span) t h (omega (arith, ints)) in omega arith,
    ))

-- the step over a multiple of its denominator is positive
pub step_positive : (m : ℤ) (a : Axis) → pos 0 <ℤ m → IsRising a → Divides (lowest_of a.step).denominator m → pos 0 <ℤ over m a.step
step_positive m a h r d =
    let n = a.step.numerator in
    let b = a.step.denominator in
    let p : ¬ (b ≡ pos 0) = λ (z : b ≡ pos 0). let q = a.step.positive in omega (arith, ints) in
    let g = gcd_positive (gcd_is n b) p in
    let gz : ¬ (gcd_of n b ≡ pos 0) = λ (z : gcd_of n b ≡ pos 0). omega (arith, ints) in
    let e = exact_div (gcd_of n b) n gz (gcd_is n b).left in
    let f : pos 0 <ℤ (gcd_of n b *ℤ (lowest n b).numerator) = subst (λ (z : ℤ). pos 0 <ℤ z) (sym e) r in
    let above = factor_positive g f in
    let l = lowest_proper n b a.step.positive in
    let lz : ¬ ((lowest n b).denominator ≡ pos 0) = λ (z : (lowest n b).denominator ≡ pos 0). omega (arith, ints) in
    let k = exact_div (lowest n b).denominator m lz d in
    let q : pos 0 <ℤ ((lowest n b).denominator *ℤ int_div m (lowest n b).denominator) = subst (λ (z : ℤ). pos 0 <ℤ z) (sym k) h in
    mul_positive above (factor_positive l q)

-- ---- one axis, with the numbers that the code has

pub refused : {A : Type 0} (o : Option A) (P : Type 0) (Q : A → Type 0) → o ≡ None → P → MatchOption o P Q
refused o P Q e p = subst (λ (x : Option _). MatchOption x P Q) (sym e) p

pub low_passes : (m : ℤ) (a : Axis) → None ≡ checked (over m a.low) → AxisPasses m a
low_passes m a e = record { cause = inl (checked_none _ (sym e)) }

pub high_passes : (m : ℤ) (a : Axis) → None ≡ checked (over m a.high) → AxisPasses m a
high_passes m a e = record { cause = inr (inl (checked_none _ (sym e))) }

pub step_passes : (m : ℤ) (a : Axis) → None ≡ checked (over m a.step) → AxisPasses m a
step_passes m a e = record { cause = inr (inr (inl (checked_none _ (sym e)))) }

difference : (a b c d : ℤ) → a ≡ c → b ≡ d → a +ℤ (pos 0 -ℤ b) ≡ c -ℤ d
difference a b c d e f = omega (arith, ints)

pub same_of : (z w : ℤ) → Some w ≡ checked z → w ≡ z
same_of z w e = sym (checked_some z w (sym e)).0

pub span_passes : (m : ℤ) (a : Axis) (low high : ℤ) → Some low ≡ checked (over m a.low) → Some high ≡ checked (over m a.high) → None ≡ checked (high +ℤ (pos 0 -ℤ low)) → AxisPasses m a
span_passes m a low high e f g =
    let d = difference high low (over m a.high) (over m a.low) (same_of _ high f) (same_of _ low e) in
    record { cause = inr (inr (inr (subst (λ (z : ℤ). PastLimit z) d (checked_none _ (sym g))))) }

-- what an axis gives
pub record Made (m : ℤ) (a : Axis) (s : Scale) : Type 0 where
  pub same : s ≡ scale_of m a
  pub fits : AxisFits m a
  pub within : IsWithin s

between : (low span : ℤ) (x : ℕ) → InLimit low → InLimit (low +ℤ span) → pos x ≤ℤ span → InLimit (low +ℤ pos x)
between low span x h k l = omega (arith, ints)

numbers_within : (s : Scale) (span : ℤ) → 0 < s.step → s.count ≡ count_of span s.step → InLimit s.low → InLimit span → InLimit (s.low +ℤ span) → IsWithin s
numbers_within s span h e l k q = record {
  above = λ i b. let a = (count_is span s.step i h).0 (subst (λ (n : ℕ). i < n) e b) in omega (arith, ints);
  number = λ i b. let a = (count_is span s.step i h).0 (subst (λ (n : ℕ). i < n) e b) in between s.low span (i * s.step) l q a;
}

back : (low high span : ℤ) → span ≡ high -ℤ low → InLimit high → InLimit (low +ℤ span)
back low high span e h = let f : low +ℤ span ≡ high = omega (arith, ints) in subst (λ (z : ℤ). InLimit z) (sym f) h

pub scale_made : (m : ℤ) (a : Axis) (low high step span : ℤ) (t n : ℕ) → pos 0 <ℤ over m a.step → Some low ≡ checked (over m a.low) → Some high ≡ checked (over m a.high) → Some step ≡ checked (over m a.step) →
    Some span ≡ checked (high +ℤ (pos 0 -ℤ low)) → t ≡ unsigned_abs step → n ≡ count_of span t → Made m a (record { name = a.name; low = low; step = t; count = n })
unfolding scale_of
scale_made m a low high step span t n h e f g k p q =
    let el = same_of _ low e in
    let eh = same_of _ high f in
    let es = same_of _ step g in
    let en = same_of _ span k ∙ difference high low (over m a.high) (over m a.low) eh el in
    let et : t ≡ unsigned_abs (over m a.step) = p ∙ ap unsigned_abs es in
    let tp : 0 < t = omega (arith, ints) in
    let wl = (checked_some _ low (sym e)).1 in
    let wh = (checked_some _ high (sym f)).1 in
    let wn : InLimit span = subst (λ (z : ℤ). InLimit z) (sym (same_of _ span k)) (checked_some _ span (sym k)).1 in
    let il : InLimit low = subst (λ (z : ℤ). InLimit z) (sym el) wl in
    let en2 : span ≡ high -ℤ low = same_of _ span k ∙ difference high low high low refl refl in
    let ih : InLimit high = subst (λ (z : ℤ). InLimit z) (sym eh) wh in
    record {
      same = λ i. record { name = a.name; low = el i; step = et i; count = (q ∙ (λ j. count_of (en j) (et j))) i };
      fits = record { low_within = wl; high_within = wh; step_within = (checked_some _ step (sym g)).1; span_within = subst (λ (z : ℤ). InLimit z) en wn };
      within = numbers_within (record { name = a.name; low = low; step = t; count = n }) span tp q il wn (back low high span en2 ih);
    }
