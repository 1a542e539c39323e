-- The examples over the integers.
use Rattle.std.proofs.Common.{◌≡◌, ℕ, suc, ℤ, pos, negsuc, ◌+ℤ◌, ◌*ℤ◌, ◌<ℤ◌, ◌≤ℤ◌, arith, refl, ap, ◌∙◌, inl, inr, nat_eq}
use Rattle.std.proofs.lemmas.Int.{ints}
use Rattle.exact_numbers.specs.Divides.{lcm_of, gcd_of, euclid}
use Rattle.exact_numbers.proofs.Ring.{mul_one}
use Rattle.logic_meaning.specs.Context.{Integers}
use Rattle.logic_meaning.specs.Point.{Point, move}
use Rattle.logic_meaning.specs.Form.{coefficient, without, scale, plus, combine, value}
use Rattle.logic_meaning.specs.Answer.{Exact, Periodic, Holds}
use Rattle.logic_meaning.specs.Tree.{TrueAt}
use Rattle.logic_meaning.specs.Formula.{Ex}
use Rattle.logic_meaning.specs.declared.side.Side.TheVariants.{Lower}
use Rattle.elimination_theory.specs.AtPlace.{at_place}
use Rattle.elimination_theory.specs.IntegersTrees.{integer_substitution}
use Rattle.elimination_theory.specs.IntegersExamples.{a_plus, two_x_is_a, even_above_a, at_most_a, ClassesAreNeeded, PointsOfTwoXIsA, SubstitutionOfTwoXIsA, PointsOfEvenAboveA, SpanIsNeeded, GuardIsNeeded}

pub points_of_two_x_is_a : PointsOfTwoXIsA
unfolding lcm_of gcd_of euclid coefficient without scale plus
points_of_two_x_is_a = (refl, refl, refl, refl)

pub substitution_of_two_x_is_a : SubstitutionOfTwoXIsA
unfolding coefficient without combine
substitution_of_two_x_is_a = (refl, refl)

pub points_of_even_above_a : PointsOfEvenAboveA
unfolding lcm_of gcd_of euclid coefficient without scale plus
points_of_even_above_a = (refl, refl, refl)

-- the point at which each name has the number n
at_number : ℤ → Point ℕ
at_number n = record { at = λ name. n; below = 1 }

odd : (q : ℤ) → pos 1 ≡ q *ℤ pos 2 → ⊥
odd q e = omega (arith, ints)

-- at a = 1 the substitution at a/2 is true, and a/2 is no whole number
half_holds : Holds Integers (at_place 0 (Exact (a_plus (pos 0)) 2)) two_x_is_a (at_number (pos 1)) → ⊥
unfolding value at_number
half_holds (k, is, true) = odd k is

half_true : TrueAt Integers (integer_substitution 0 (Exact (a_plus (pos 0)) 2) two_x_is_a) (at_number (pos 1))
unfolding value at_number coefficient without combine
half_true = refl

whole_at : (n : ℤ) → (at_number n).below ≡ 1
unfolding at_number
whole_at n = refl

pub guard_is_needed : GuardIsNeeded
guard_is_needed wrong = half_holds (wrong 0 (Exact (a_plus (pos 0)) 2) two_x_is_a (at_number (pos 1)) (omega arith) tt tt (whole_at (pos 1)) half_true)

-- at a = 0 the only numbers that are looked at are those of the class of 1, far out, and a + 1
origin : Point ℕ
origin = record { at = λ name. pos 0; below = 1 }

two_true : TrueAt Integers (Ex 0 even_above_a) origin
unfolding value move origin
two_true = (pos 2, 1, refl, (omega (arith, ints), ((pos 1, refl), tt)))

above_origin : (k : ℤ) → TrueAt Integers even_above_a (move nat_eq origin 0 k 1) → pos 0 <ℤ k
unfolding value move origin
above_origin k true = let h = true.0 in omega (arith, ints)

even_there : (k : ℤ) → TrueAt Integers even_above_a (move nat_eq origin 0 k 1) → (q : ℤ) × (k ≡ q *ℤ pos 2)
unfolding value move origin
even_there k true = let h = true.1.0.1 in (true.1.0.0, omega (arith, ints))

whole_origin : origin.below ≡ 1
unfolding origin
whole_origin = refl

not_below : (k b : ℤ) → k ≤ℤ pos 0 → b ≡ pos 1 → (pos 0 <ℤ (k *ℤ b)) → ⊥
not_below k b low e h = let m : k *ℤ b ≡ k = ap (λ z. k *ℤ z) e ∙ mul_one k in omega (arith, ints)

class_fails : Holds Integers (at_place 0 (Periodic (pos 1) (negsuc 0))) even_above_a origin → ⊥
class_fails (pos n, true) =
    not_below (pos 1 +ℤ negsuc 0 *ℤ pos (suc n)) (pos origin.below) (omega (arith, ints)) (ap pos whole_origin) (above_origin _ (true (pos (suc n)) (omega (arith, ints))))
class_fails (negsuc n, true) =
    not_below (pos 1 +ℤ negsuc 0 *ℤ pos 1) (pos origin.below) (omega (arith, ints)) (ap pos whole_origin) (above_origin _ (true (pos 1) (omega (arith, ints))))

next_value : value (a_plus (pos 1)) origin ≡ pos 1
unfolding value origin
next_value = refl

next_fails : Holds Integers (at_place 0 (Exact (a_plus (pos 1)) 1)) even_above_a origin → ⊥
next_fails (k, is, true) =
    let e = next_value in
    let o = mul_one k in
    let even : (q : ℤ) × (k ≡ q *ℤ pos 2) = even_there k true in
    odd even.0 (omega (arith, ints))

pub span_is_needed : SpanIsNeeded
unfolding origin lcm_of gcd_of euclid coefficient without scale plus
span_is_needed wrong =
    elim (wrong Lower 0 even_above_a origin (tt, (tt, tt)) (tt, (omega arith, tt)) refl two_true) [
      | inl class ↦ class_fails class
      | inr rest ↦ elim rest [ inl next ↦ next_fails next | inr none ↦ absurd none ]
    ]

none_true : TrueAt Integers (Ex 0 at_most_a) origin
unfolding value move origin
none_true = (pos 0, 1, refl, omega (arith, ints))

pub classes_are_needed : ClassesAreNeeded
unfolding origin coefficient without scale plus
classes_are_needed wrong = wrong Lower 0 at_most_a origin tt tt refl none_true
