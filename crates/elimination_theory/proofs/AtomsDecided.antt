-- Atoms are true or not, and the opposite atom has the opposite truth.
use Rattle.std.proofs.Common.{◌≡◌, ℕ, ◌<◌, ◌∙◌, arith, ◌⊎◌, inl, inr, ⊎_elim, ◌↔◌, true, false}
use Rattle.std.proofs.Math.IntN.{ℤ, pos, ◌*ℤ◌}
use Rattle.std.specs.Prelude.{◌<ℤ◌, ◌≤ℤ◌}
use Rattle.std.proofs.lemmas.Int.{ints}
use Rattle.exact_numbers.specs.Divides.{Divides, residue_of}
use Rattle.exact_numbers.proofs.Ring.{mul_comm}
use Rattle.exact_numbers.proofs.Order.{by_order, by_less, by_zero, mul_positive}
use Rattle.exact_numbers.proofs.Floor.{divides_from_residue, residue_of_multiple}
use Rattle.logic_meaning.specs.Context.{Context, Fields, Integers}
use Rattle.logic_meaning.specs.Point.{Point, Of}
use Rattle.logic_meaning.specs.Form.{Form, value}
use Rattle.logic_meaning.specs.Atom.{Atom, Compare, Congruent, Relation, Equals, Differs, Below, AtMost, Above, AtLeast, Relates, Says, IsMultiple, opposite_relation}
use Rattle.formula_laws.specs.TheoryAtoms.{AtomIn, opposite}

abbrev pub IsDecided : Type 0 → Type 0
IsDecided P = P ⊎ ¬ P

pub not_decided : {P : Type 0} → IsDecided P → IsDecided (¬ P)
not_decided (inl h) = inr (λ n. n h)
not_decided (inr h) = inl h

equal_decided : (a b : ℤ) → IsDecided (a ≡ b)
equal_decided a b = by_order a b (λ (h : a <ℤ b). inr (λ (e : a ≡ b). omega (arith, ints))) (λ e. inl e) (λ (h : b <ℤ a). inr (λ (e : a ≡ b). omega (arith, ints)))

less_decided : (a b : ℤ) → IsDecided (a <ℤ b)
less_decided a b = by_less a b (λ h. inl h) (λ (h : b ≤ℤ a). inr (λ (k : a <ℤ b). omega (arith, ints)))

at_most_decided : (a b : ℤ) → IsDecided (a ≤ℤ b)
at_most_decided a b = by_less b a (λ (h : b <ℤ a). inr (λ (k : a ≤ℤ b). omega (arith, ints))) (λ h. inl h)

relation_decided : (r : Relation) (a b : ℤ) → IsDecided (Relates r a b)
relation_decided Equals a b = equal_decided a b
relation_decided Differs a b = not_decided (equal_decided a b)
relation_decided Below a b = less_decided a b
relation_decided AtMost a b = at_most_decided a b
relation_decided Above a b = less_decided b a
relation_decided AtLeast a b = at_most_decided b a

multiple_decided : (n : ℕ) (f : Form) (p : Point ℕ) → 0 < n → p.below ≡ 1 → IsDecided (IsMultiple n f p)
multiple_decided n f p h k =
    let a : pos 0 <ℤ pos n = omega (arith, ints) in
    let b : pos 0 <ℤ pos p.below = omega (arith, ints) in
    let m : pos 0 <ℤ (pos n *ℤ pos p.below) = mul_positive a b in
    by_zero (residue_of (value f p) (pos n *ℤ pos p.below))
    (λ z. let d : Divides (pos n *ℤ pos p.below) (value f p) = divides_from_residue m z in inl (d.quotient, d.exact ∙ mul_comm (pos n *ℤ pos p.below) d.quotient))
    (λ z. inr (λ d. z (residue_of_multiple m (record { quotient = d.0; exact = d.1 ∙ mul_comm d.0 (pos n *ℤ pos p.below) }))))

pub atom_decided : (c : Context) (a : Atom) (p : Point ℕ) → AtomIn c a → Of c p → IsDecided (Says a p)
atom_decided c (Compare r f) p h o = relation_decided r (value f p) (pos 0)
atom_decided Fields (Congruent holds n f) p h o = absurd h
atom_decided Integers (Congruent true n f) p h o = multiple_decided n f p h o
atom_decided Integers (Congruent false n f) p h o = not_decided (multiple_decided n f p h o)

relation_opposite : (r : Relation) (a b : ℤ) → Relates (opposite_relation r) a b ↔ ¬ (Relates r a b)
relation_opposite Equals a b = (λ h. h, λ h. h)
relation_opposite Differs a b = (λ e n. n e, λ n. ⊎_elim (λ e. e) (λ m. absurd (n m)) (equal_decided a b))
relation_opposite Below a b = (λ (h : b ≤ℤ a) (k : a <ℤ b). omega (arith, ints), λ n. by_less a b (λ h. absurd (n h)) (λ h. h))
relation_opposite AtMost a b = (λ (h : b <ℤ a) (k : a ≤ℤ b). omega (arith, ints), λ n. by_less b a (λ h. h) (λ h. absurd (n h)))
relation_opposite Above a b = (λ (h : a ≤ℤ b) (k : b <ℤ a). omega (arith, ints), λ n. by_less b a (λ h. absurd (n h)) (λ h. h))
relation_opposite AtLeast a b = (λ (h : a <ℤ b) (k : b ≤ℤ a). omega (arith, ints), λ n. by_less a b (λ h. h) (λ h. absurd (n h)))

pub atom_opposite : (c : Context) (a : Atom) (p : Point ℕ) → AtomIn c a → Of c p → Says (opposite a) p ↔ ¬ (Says a p)
atom_opposite c (Compare r f) p h o = relation_opposite r (value f p) (pos 0)
atom_opposite c (Congruent true n f) p h o = (λ t. t, λ t. t)
atom_opposite c (Congruent false n f) p h o = (λ d m. m d, λ m. ⊎_elim (λ d. d) (λ n. absurd (m n)) (atom_decided c (Congruent true n f) p (congruent_in c n f h) o))
  where
    congruent_in : (c : Context) (n : ℕ) (f : Form) → AtomIn c (Congruent false n f) → AtomIn c (Congruent true n f)
    congruent_in Fields n f h = h
    congruent_in Integers n f h = h
