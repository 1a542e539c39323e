-- An atom that is not false at a point is true there.
use Rattle.std.proofs.Common.{◌≡◌, ℕ, ◌<◌, true, false, ⊎_elim, ◌⊎◌, inl, inr, sym, ap, ◌∙◌, arith}
use Rattle.std.proofs.Math.IntN.{ℤ, pos, ◌*ℤ◌}
use Rattle.std.specs.Prelude.{◌<ℤ◌}
use Rattle.std.proofs.lemmas.Bool.{cases_lt}
use Rattle.std.proofs.lemmas.Int.{ints}
use Rattle.exact_numbers.specs.Divides.{Divides, residue_of}
use Rattle.exact_numbers.proofs.Ring.{mul_comm, mul_zero, zero_mul}
use Rattle.exact_numbers.proofs.Order.{by_zero, mul_positive}
use Rattle.exact_numbers.proofs.Floor.{divides_from_residue, residue_of_multiple}
use Rattle.logic_meaning.specs.Context.{Context, Fields, Integers}
use Rattle.logic_meaning.specs.Point.{Point, Of}
use Rattle.logic_meaning.specs.Form.{Form, value}
use Rattle.logic_meaning.specs.Atom.{Atom, Compare, Congruent, Says, IsMultiple}
use Rattle.normal_atoms.proofs.NormalLaws.{atom_decided}

-- a point of the integers is one of the ordered fields
pub of_fields : (c : Context) (p : Point ℕ) → Of c p → Of Fields p
of_fields Fields p o = o
of_fields Integers p o = omega arith

positive_decided : (v m : ℤ) → pos 0 <ℤ m → ((q : ℤ) × (v ≡ q *ℤ m)) ⊎ (¬ ((q : ℤ) × (v ≡ q *ℤ m)))
positive_decided v m h =
    by_zero (residue_of v m)
    (λ z. let d : Divides m v = divides_from_residue h z in inl (d.quotient, d.exact ∙ mul_comm m d.quotient))
    (λ z. inr (λ d. z (residue_of_multiple h (record { quotient = d.0; exact = d.1 ∙ mul_comm d.0 m }))))

zero_decided : (v m : ℤ) → m ≡ pos 0 → ((q : ℤ) × (v ≡ q *ℤ m)) ⊎ (¬ ((q : ℤ) × (v ≡ q *ℤ m)))
zero_decided v m e =
    let none : (q : ℤ) → q *ℤ m ≡ pos 0 = λ q. ap (λ z. q *ℤ z) e ∙ mul_zero q in
    by_zero v (λ z. inl (pos 0, z ∙ sym (none (pos 0)))) (λ z. inr (λ d. z (d.1 ∙ none d.0)))

multiple_decided : (n : ℕ) (f : Form) (p : Point ℕ) → Of Fields p → IsMultiple n f p ⊎ (¬ (IsMultiple n f p))
multiple_decided n f p o =
    ⊎_elim
    (λ (l : 0 < n).
    let a : pos 0 <ℤ pos n = omega (arith, ints) in
    let b : pos 0 <ℤ pos p.below = omega (arith, ints) in
    positive_decided (value f p) (pos n *ℤ pos p.below) (mul_positive a b))
    (λ l. let e : n ≡ 0 = omega arith in zero_decided (value f p) (pos n *ℤ pos p.below) (ap (λ k. pos k *ℤ pos p.below) e ∙ zero_mul (pos p.below)))
    (cases_lt 0 n)

stable : {P : Type 0} → P ⊎ (¬ P) → ¬ ¬ P → P
stable (inl h) n = h
stable (inr h) n = absurd (n h)

pub says_stable : (a : Atom) (p : Point ℕ) → Of Fields p → ¬ ¬ (Says a p) → Says a p
says_stable (Compare r f) p o n = stable (atom_decided Fields (Compare r f) tt p o) n
says_stable (Congruent true m f) p o n = stable (multiple_decided m f p o) n
says_stable (Congruent false m f) p o n = λ h. n (λ k. k h)
