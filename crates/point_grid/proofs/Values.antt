-- The values of an axis over a common denominator.
use Rattle.std.proofs.Common.{◌≡◌, ◌↔◌, ℕ, ◌*◌, ◌<◌, List, [], ◌∷◌, sym, ap, ◌∙◌, subst, arith}
use Rattle.std.proofs.Math.IntN.{ℤ, pos, ◌+ℤ◌, ◌-ℤ◌, ◌*ℤ◌}
use Rattle.std.specs.Prelude.{◌<ℤ◌, ◌≤ℤ◌, unsigned_abs, int_div}
use Rattle.std.specs.List.{AllByRecursion}
use Rattle.std.proofs.lemmas.Int.{ints}
use Rattle.exact_numbers.specs.declared.fraction.Fraction.{Fraction}
use Rattle.exact_numbers.specs.Divides.{Divides}
use Rattle.exact_numbers.specs.Frac.{SameValue}
use Rattle.exact_numbers.specs.Fraction.{frac_of}
use Rattle.exact_numbers.proofs.Ring.{mul_assoc, mul_comm}
use Rattle.exact_numbers.proofs.Divisibility.{divides_trans}
use Rattle.exact_numbers.proofs.LeastMultiple.{exact_div, lcm_is}
use Rattle.exact_numbers.proofs.FractionRule.{lowest_proper, lowest_value}
use Rattle.program_meaning.specs.declared.axis.Axis.{Axis}
use Rattle.program_meaning.specs.Counts.{count_of}
use Rattle.program_meaning.specs.GridPoints.{lowest_of, over, span_of, scale_of, multiple_with, multiple_of, common}
use Rattle.point_grid.specs.Steps.{IsRising}
use Rattle.point_grid.specs.Laws.{HasValues, fraction_over}
use Rattle.point_grid.proofs.Multiples.{steps, with_grows, of_grows}
use Rattle.point_grid.proofs.Counting.{step_positive, count_is}

-- (a k) d = n m where a d = n b and b k = m
crossed : (a b d k m n : ℤ) → a *ℤ d ≡ n *ℤ b → b *ℤ k ≡ m → (a *ℤ k) *ℤ d ≡ n *ℤ m
crossed a b d k m n e f =
    mul_assoc a k d ∙ ap (λ z. a *ℤ z) (mul_comm k d) ∙ sym (mul_assoc a d k) ∙ ap (λ z. z *ℤ k) e ∙ mul_assoc n b k ∙ ap (λ z. n *ℤ z) f

same_value : (m : ℤ) (f : Fraction) → Divides (lowest_of f).denominator m → SameValue (fraction_over m (over m f)) (frac_of f)
same_value m f d =
    let l = lowest_of f in
    let p = lowest_proper f.numerator f.denominator f.positive in
    let z : ¬ (l.denominator ≡ pos 0) = λ (e : l.denominator ≡ pos 0). omega (arith, ints) in
    crossed l.numerator l.denominator f.denominator (int_div m l.denominator) m f.numerator (lowest_value f.numerator f.denominator f.positive) (exact_div l.denominator m z d)

pub record Divided (m : ℤ) (a : Axis) : Type 0 where
  pub low : Divides (lowest_of a.low).denominator m
  pub high : Divides (lowest_of a.high).denominator m
  pub step : Divides (lowest_of a.step).denominator m

times_pos : (i : ℕ) (z : ℤ) → pos 0 <ℤ z → pos (i * unsigned_abs z) ≡ pos i *ℤ z
times_pos i z h = let e : z ≡ pos (unsigned_abs z) = omega (arith, ints) in ap (λ (y : ℤ). pos i *ℤ y) (sym e)

numbers : (low high x : ℤ) → (x ≤ℤ (high -ℤ low)) ↔ ((low +ℤ x) ≤ℤ high)
numbers low high x = (λ (h : x ≤ℤ (high -ℤ low)). omega (arith, ints), λ (h : (low +ℤ x) ≤ℤ high). omega (arith, ints))

has_values : (m : ℤ) (a : Axis) → pos 0 <ℤ m → IsRising a → Divided m a → HasValues m a
unfolding scale_of
has_values m a h r d =
    let p = step_positive m a h r d.step in
    let t = unsigned_abs (over m a.step) in
    let tp : 0 < t = omega (arith, ints) in
    record {
      low = same_value m a.low d.low;
      high = same_value m a.high d.high;
      step = same_value m a.step d.step;
      number = λ i. ap (λ (z : ℤ). over m a.low +ℤ z) (times_pos i (over m a.step) p);
      counted = λ i.
          let c = count_is (span_of m a) t i tp in
          let n = numbers (over m a.low) (over m a.high) (pos (i * t)) in
          subst (λ (z : ℤ). (i < count_of (span_of m a) t) ↔ ((over m a.low +ℤ z) ≤ℤ over m a.high)) (times_pos i (over m a.step) p) (λ x. n.0 (c.0 x), λ y. c.1 (n.1 y));
    }

divided : (m : ℤ) (a : Axis) → pos 0 <ℤ m → Divided (multiple_with m a) a
unfolding multiple_with
divided m a h =
    let s = steps m a h in
    let bl = lowest_proper a.low.numerator a.low.denominator a.low.positive in
    let bh = lowest_proper a.high.numerator a.high.denominator a.high.positive in
    record {
      low = divides_trans (lcm_is h bl).right (divides_trans s.second.multiple s.third.multiple);
      high = divides_trans (lcm_is s.first.positive bh).right s.third.multiple;
      step = s.step;
    }

divided_on : (m n : ℤ) (a : Axis) → Divided m a → Divides m n → Divided n a
divided_on m n a d e = record { low = divides_trans d.low e; high = divides_trans d.high e; step = divides_trans d.step e }

have_values : (m : ℤ) (axes : List Axis) → pos 0 <ℤ m → AllByRecursion IsRising axes → AllByRecursion (HasValues (multiple_of m axes)) axes
unfolding multiple_of
have_values m [] h r = tt
have_values m (a ∷ axes) h r =
    let n = multiple_with m a in
    let g = with_grows m a h in
    let l = of_grows n axes g.positive in
    (has_values (multiple_of n axes) a l.positive r.0 (divided_on n (multiple_of n axes) a (divided m a h) l.multiple), have_values n axes g.positive r.1)

pub all_have_values : (axes : List Axis) → AllByRecursion IsRising axes → AllByRecursion (HasValues (common axes)) axes
all_have_values axes r = have_values (pos 1) axes (let h : pos 0 <ℤ pos 1 = omega (arith, ints) in h) r
