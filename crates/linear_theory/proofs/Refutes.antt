-- Multipliers by Farkas show that no point meets the constraints: at a point that meets them the sum of the multiples is at most 0.
use Rattle.std.proofs.Common.{◌≡◌, inl, inr, ℕ, List, [], ◌∷◌, ap, sym, ◌∙◌, refl, arith}
use Rattle.std.proofs.Math.IntN.{ℤ, pos, ◌+ℤ◌, ◌*ℤ◌}
use Rattle.std.specs.Prelude.{◌<ℤ◌, ◌≤ℤ◌}
use Rattle.std.proofs.lemmas.Int.{ints}
use Rattle.exact_numbers.proofs.Order.{mul_less, mul_at_most, mul_positive}
use Rattle.exact_numbers.proofs.Ring.{mul_zero, one_mul, zero_mul}
use Rattle.logic_meaning.specs.Form.{Form, coefficient, value, combine}
use Rattle.logic_meaning.specs.Point.{Point}
use Rattle.formula_laws.proofs.Gathered.{value_gathered, gathered_is}
use Rattle.formula_laws.proofs.Values.{value_combine}
use Rattle.logic_meaning.specs.Constraints.{Bound, Equal, AtMost, Below, Constraint}
use Rattle.linear_theory.specs.Meeting.{Stands, MeetsAll}
use Rattle.logic_meaning.specs.Farkas.{nothing, IsAllowed, AreAllowed, sum_from, IsStrictly, SomeStrict}
use Rattle.linear_theory.specs.Refutes.{FarkasRefutes}

-- ---- one multiple

-- an allowed multiple of a number that stands is at most 0
multiple_at_most : (b : Bound) (m v : ℤ) → IsAllowed b m → Stands b v → (m *ℤ v) ≤ℤ pos 0
multiple_at_most Equal m v a h = let e = ap (λ z. m *ℤ z) h in let z = mul_zero m in omega (arith, ints)
multiple_at_most AtMost m v a h = let k = mul_at_most m a h in let z = mul_zero m in omega (arith, ints)
multiple_at_most Below m v a h = let l : v ≤ℤ pos 0 = omega (arith, ints) in let k = mul_at_most m a l in let z = mul_zero m in omega (arith, ints)

-- and below 0 where the multiple is positive and the constraint strict
multiple_below : (b : Bound) (m v : ℤ) → IsStrictly b m → Stands b v → (m *ℤ v) <ℤ pos 0
multiple_below Equal m v s h = absurd s
multiple_below AtMost m v s h = absurd s
multiple_below Below m v s h = let k = mul_less m s h in let z = mul_zero m in omega (arith, ints)

-- ---- the sum

value_more : (s : Form) (m : ℤ) (f : Form) (p : Point ℕ) → value (combine (pos 1) s m f) p ≡ value s p +ℤ m *ℤ value f p
value_more s m f p = value_combine (pos 1) s m f p ∙ ap (λ z. z +ℤ m *ℤ value f p) (one_mul (value s p))

value_nothing : (p : Point ℕ) → value nothing p ≡ pos 0
unfolding value
value_nothing p = let z = zero_mul (pos p.below) in omega (arith, ints)

-- what is added is at most 0,
sum_at_most : (s : Form) (cs : List Constraint) (ms : List ℤ) (p : Point ℕ) → AreAllowed cs ms → MeetsAll p cs → value (sum_from s cs ms) p ≤ℤ value s p
unfolding sum_from
sum_at_most s [] [] p a h = omega (arith, ints)
sum_at_most s [] (m ∷ ms) p a h = absurd a
sum_at_most s (c ∷ cs) [] p a h = absurd a
sum_at_most s (c ∷ cs) (m ∷ ms) p a h =
    let rest = sum_at_most (combine (pos 1) s m c.form) cs ms p a.1 h.1 in
    let one = multiple_at_most c.bound m (value c.form p) a.0 h.0 in
    let e = value_more s m c.form p in
    omega (arith, ints)

-- and below 0 where some strict constraint has a positive multiplier
sum_below : (s : Form) (cs : List Constraint) (ms : List ℤ) (p : Point ℕ) → AreAllowed cs ms → SomeStrict cs ms → MeetsAll p cs → value (sum_from s cs ms) p <ℤ value s p
unfolding sum_from
sum_below s [] [] p a t h = absurd t
sum_below s [] (m ∷ ms) p a t h = absurd a
sum_below s (c ∷ cs) [] p a t h = absurd a
sum_below s (c ∷ cs) (m ∷ ms) p a (inl k) h =
    let rest = sum_at_most (combine (pos 1) s m c.form) cs ms p a.1 h.1 in
    let one = multiple_below c.bound m (value c.form p) k h.0 in
    let e = value_more s m c.form p in
    omega (arith, ints)
sum_below s (c ∷ cs) (m ∷ ms) p a (inr k) h =
    let rest = sum_below (combine (pos 1) s m c.form) cs ms p a.1 k h.1 in
    let one = multiple_at_most c.bound m (value c.form p) a.0 h.0 in
    let e = value_more s m c.form p in
    omega (arith, ints)

-- ---- a form without names

value_constant : (c : ℤ) (p : Point ℕ) → value (record { terms = []; constant = c }) p ≡ c *ℤ pos p.below
unfolding value
value_constant c p = omega (arith, ints)

-- its value is its constant, times the denominator
value_without_names : (f : Form) (p : Point ℕ) → ((x : ℕ) → coefficient x f ≡ pos 0) → value f p ≡ f.constant *ℤ pos p.below
unfolding coefficient
value_without_names f p none =
    let e = gathered_is f (record { terms = []; constant = f.constant }) (record { rising = tt; nonzero = tt }) (λ x. sym (none x)) refl in
    sym (value_gathered f p) ∙ ap (λ (g : Form). value g p) e ∙ value_constant f.constant p

-- ---- the theorem

-- a sum without names whose value is at most 0 has no positive constant,
not_positive : (c v w : ℤ) → pos 0 <ℤ w → v ≡ c *ℤ w → v ≤ℤ pos 0 → ¬ (pos 0 <ℤ c)
not_positive c v w o e h k = let l = mul_positive k o in omega (arith, ints)

-- and one whose value is below 0 hasn't the constant 0
not_zero : (c v w : ℤ) → v ≡ c *ℤ w → v <ℤ pos 0 → ¬ (c ≡ pos 0)
not_zero c v w e h k = let z = ap (λ z. z *ℤ w) k ∙ zero_mul w in omega (arith, ints)

pub refutes : FarkasRefutes
refutes cs ms f p o h =
    let zero = value_nothing p in
    let e = value_without_names (sum_from nothing cs ms) p f.no_names in
    let c = (sum_from nothing cs ms).constant in
    elim f.constant [
      | inl k ↦
          let most = sum_at_most nothing cs ms p f.allowed h in
          not_positive c (value (sum_from nothing cs ms) p) (pos p.below) (omega (arith, ints)) e (omega (arith, ints)) k
      | inr k ↦
          let less = sum_below nothing cs ms p f.allowed k.1 h in
          not_zero c (value (sum_from nothing cs ms) p) (pos p.below) e (omega (arith, ints)) k.0
    ]
