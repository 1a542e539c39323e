-- A comparison as a condition on the value of one name: that value, a fraction k/m, against the comparison's own point n/d.
use Rattle.std.proofs.Common.{◌≡◌, ℕ, suc, ◌/◌, ap, sym, ◌∙◌, arith, ◌↔◌, nat_eq}
use Rattle.std.proofs.Math.IntN.{ℤ, pos, negsuc, ◌+ℤ◌, ◌-ℤ◌, ◌*ℤ◌, neg_ℤ}
use Rattle.std.specs.Prelude.{◌<ℤ◌}
use Rattle.std.proofs.lemmas.Int.{ints}
use Rattle.exact_numbers.proofs.Ring.{zero_mul, mul_sub, mul_comm, mul_assoc, mul_left_comm, neg_mul}
use Rattle.logic_meaning.specs.Point.{Point, move}
use Rattle.logic_meaning.specs.Form.{Form, value, coefficient, without, scale}
use Rattle.logic_meaning.specs.Atom.{Relation, Relates, mirrored}
use Rattle.formula_laws.proofs.Values.{value_move, value_split, value_scale}
use Rattle.formula_laws.proofs.Iff.{both_ways, turn_round}
use Rattle.formula_laws.proofs.Relations.{relates_along, relates_zero_mul, relates_difference, relates_neg}
use Rattle.logic_meaning.specs.FieldsPoints.{divisor_of, form_over}
use Rattle.elimination_theory.proofs.LowestTerms.{IsLowest, lowest}

no_name_value : (c at t : ℤ) (v : ℤ) → c ≡ pos 0 → v ≡ c *ℤ at +ℤ t → v ≡ t
no_name_value c at t v e f = let z = ap (λ y. y *ℤ at) e in let w = zero_mul at in omega (arith, ints)

no_name_moved : (c k t m v : ℤ) → c ≡ pos 0 → v ≡ c *ℤ k +ℤ t *ℤ m → v ≡ m *ℤ t
no_name_moved c k t m v e f = let z = ap (λ y. y *ℤ k) e in let w = zero_mul k in omega (arith, ints)

-- a form without the name keeps its value, but for the denominator
pub value_still : (f : Form) (p : Point ℕ) (x : ℕ) (k : ℤ) (m : ℕ) → coefficient x f ≡ pos 0 → value f (move nat_eq p x k m) ≡ pos m *ℤ value f p
value_still f p x k m e =
    no_name_moved (coefficient x f) k (value (without x f) p) (pos m) _ e (value_move f p x k m)
    ∙ ap (λ z. pos m *ℤ z) (sym (no_name_value (coefficient x f) (p.at x) (value (without x f) p) _ e (value_split f p x)))

pub comparison_still : (r : Relation) (f : Form) (p : Point ℕ) (x : ℕ) (k : ℤ) (m : ℕ) → coefficient x f ≡ pos 0 → pos 0 <ℤ pos m →
    Relates r (value f (move nat_eq p x k m)) (pos 0) ↔ Relates r (value f p) (pos 0)
comparison_still r f p x k m e h = both_ways (relates_along r (pos 0) (value_still f p x k m e)) (turn_round (relates_zero_mul r (pos m) (value f p) h))

-- g (k d - n m) is c k + t m, where g d is c and g n is - t
rising : (g d n c t s k m v : ℤ) → g *ℤ d ≡ c → g *ℤ n ≡ s → s ≡ neg_ℤ t → v ≡ c *ℤ k +ℤ t *ℤ m → v ≡ g *ℤ (k *ℤ d -ℤ n *ℤ m)
rising g d n c t s k m v e f i h =
    let a : g *ℤ (k *ℤ d) ≡ c *ℤ k = mul_left_comm g k d ∙ ap (λ z. k *ℤ z) e ∙ mul_comm k c in
    let b : g *ℤ (n *ℤ m) ≡ s *ℤ m = sym (mul_assoc g n m) ∙ ap (λ z. z *ℤ m) f in
    let j : s *ℤ m ≡ neg_ℤ (t *ℤ m) = ap (λ z. z *ℤ m) i ∙ neg_mul t m in
    let q = mul_sub g (k *ℤ d) (n *ℤ m) in
    omega (arith, ints)

falling : (g d n c b t k m v : ℤ) → g *ℤ d ≡ b → c ≡ neg_ℤ b → g *ℤ n ≡ t → v ≡ c *ℤ k +ℤ t *ℤ m → v ≡ neg_ℤ (g *ℤ (k *ℤ d -ℤ n *ℤ m))
falling g d n c b t k m v e i f h =
    let a : g *ℤ (k *ℤ d) ≡ b *ℤ k = mul_left_comm g k d ∙ ap (λ z. k *ℤ z) e ∙ mul_comm k b in
    let l : g *ℤ (n *ℤ m) ≡ t *ℤ m = sym (mul_assoc g n m) ∙ ap (λ z. z *ℤ m) f in
    let j : c *ℤ k ≡ neg_ℤ (b *ℤ k) = ap (λ z. z *ℤ k) i ∙ neg_mul b k in
    let q = mul_sub g (k *ℤ d) (n *ℤ m) in
    omega (arith, ints)

-- the numerator and the denominator of e over d in lowest terms
abbrev pub over : Form → ℕ → Point ℕ → ℤ
over e d p = value (form_over (divisor_of e d) e) p

abbrev pub under : Form → ℕ → ℕ
under e d = d / divisor_of e d

pub negated_value : (t : Form) (p : Point ℕ) → value (scale (negsuc 0) t) p ≡ neg_ℤ (value t p)
negated_value t p = let h = value_scale (negsuc 0) t p in omega (arith, ints)

-- a comparison with a positive coefficient
pub line_positive : (r : Relation) (f : Form) (p : Point ℕ) (x n : ℕ) → coefficient x f ≡ pos (suc n) → (k : ℤ) (m : ℕ) →
    Relates r (value f (move nat_eq p x k m)) (pos 0)
    ↔ Relates r (k *ℤ pos (under (scale (negsuc 0) (without x f)) (suc n))) (over (scale (negsuc 0) (without x f)) (suc n) p *ℤ pos m)
line_positive r f p x n e k m =
    let s : Form = scale (negsuc 0) (without x f) in
    let l : IsLowest s (suc n) = lowest s (suc n) (omega arith) in
    let v = rising (pos (divisor_of s (suc n))) (pos (under s (suc n))) (over s (suc n) p) (coefficient x f) (value (without x f) p) (value s p) k (pos m) _
    (l.below_times ∙ sym e) (l.value_times p) (negated_value (without x f) p) (value_move f p x k m) in
    both_ways (relates_along r (pos 0) v)
    (both_ways (turn_round (relates_zero_mul r (pos (divisor_of s (suc n))) _ l.divisor_positive))
    (relates_difference r (k *ℤ pos (under s (suc n))) (over s (suc n) p *ℤ pos m)))

-- a comparison with a negative coefficient
pub line_negative : (r : Relation) (f : Form) (p : Point ℕ) (x n : ℕ) → coefficient x f ≡ negsuc n → (k : ℤ) (m : ℕ) →
    Relates r (value f (move nat_eq p x k m)) (pos 0)
    ↔ Relates (mirrored r) (k *ℤ pos (under (without x f) (suc n))) (over (without x f) (suc n) p *ℤ pos m)
line_negative r f p x n e k m =
    let s : Form = without x f in
    let l : IsLowest s (suc n) = lowest s (suc n) (omega arith) in
    let v = falling (pos (divisor_of s (suc n))) (pos (under s (suc n))) (over s (suc n) p) (coefficient x f) (pos (suc n)) (value s p) k (pos m) _
    l.below_times e (l.value_times p) (value_move f p x k m) in
    both_ways (relates_along r (pos 0) v)
    (both_ways (relates_neg r (pos (divisor_of s (suc n)) *ℤ (k *ℤ pos (under s (suc n)) -ℤ over s (suc n) p *ℤ pos m)))
    (both_ways (turn_round (relates_zero_mul (mirrored r) (pos (divisor_of s (suc n))) _ l.divisor_positive))
    (relates_difference (mirrored r) (k *ℤ pos (under s (suc n))) (over s (suc n) p *ℤ pos m))))
