-- The answers y = 3 - 3 * infinity and x = y.
use Rattle.std.proofs.Common.{◌≡◌, ℕ, ℤ, pos, negsuc, ◌+ℤ◌, ◌*ℤ◌, arith, refl, subst, inl, inr, ⊎_elim, ◌↔◌}
use Rattle.std.proofs.lemmas.Int.{ints}
use Rattle.exact_numbers.specs.Divides.{Divides}
use Rattle.logic_meaning.specs.Context.{Integers}
use Rattle.logic_meaning.specs.Point.{Point, Of}
use Rattle.logic_meaning.specs.Formula.{Yes}
use Rattle.logic_meaning.specs.Form.{value, coefficient, without, combine, plus}
use Rattle.logic_meaning.specs.Tree.{TrueAt}
use Rattle.elimination_theory.specs.FieldsExample.{named}
use Rattle.elimination_theory.specs.Places.{substitution}
use Rattle.elimination_theory.specs.AnswersTheorems.{Makes}
use Rattle.elimination_theory.specs.AnswersExample.{matrix, branch, x_is_y, y_is_far, PeriodOfTheBranch}

-- y - y
cancels : (y b : ℤ) → ((pos 1 *ℤ pos 1) *ℤ y +ℤ ((pos 1 *ℤ negsuc 0) *ℤ y +ℤ pos 0)) +ℤ (pos 1 *ℤ pos 0 +ℤ pos 1 *ℤ pos 0) *ℤ b ≡ pos 0
cancels y b = omega (arith, ints)

-- 2 * y + 1 is odd
odd : (y q : ℤ) (b : ℕ) → b ≡ 1 → ((pos 1 *ℤ pos 1) *ℤ y +ℤ ((pos 1 *ℤ pos 1) *ℤ y +ℤ pos 0)) +ℤ (pos 1 *ℤ pos 0 +ℤ pos 1 *ℤ pos 1) *ℤ pos b ≡ q *ℤ (pos 4 *ℤ pos b) → ⊥
odd y q b e h = absurd (at_one y q (subst (λ (n : ℕ). ((pos 1 *ℤ pos 1) *ℤ y +ℤ ((pos 1 *ℤ pos 1) *ℤ y +ℤ pos 0)) +ℤ (pos 1 *ℤ pos 0 +ℤ pos 1 *ℤ pos 1) *ℤ pos n ≡ q *ℤ (pos 4 *ℤ pos n)) e h))
  where
    at_one : (y q : ℤ) → ((pos 1 *ℤ pos 1) *ℤ y +ℤ ((pos 1 *ℤ pos 1) *ℤ y +ℤ pos 0)) +ℤ (pos 1 *ℤ pos 0 +ℤ pos 1 *ℤ pos 1) *ℤ pos 1 ≡ q *ℤ (pos 4 *ℤ pos 1) → ⊥
    at_one y q h = omega (arith, ints)

-- 3 is a multiple of 3
three : (b : ℕ) → pos 0 +ℤ (pos 0 +ℤ pos 1 *ℤ pos 3) *ℤ pos b ≡ pos 1 *ℤ (pos 3 *ℤ pos b)
three b = omega (arith, ints)

x_put_in : (p : Point ℕ) → Of Integers p → TrueAt Integers (substitution Integers x_is_y.name x_is_y.place matrix) p ↔ TrueAt Integers branch p
unfolding value coefficient without combine
x_put_in p o = (
  λ t. ⊎_elim (λ m. absurd (odd (p.at 1) m.0 p.below o m.1)) (⊎_elim (λ d. d) (λ u. absurd u)) t.1.0.1.0,
  λ d. (tt, ((cancels (p.at 1) (pos p.below), (inr (inl d), tt)), tt)),
)

x_made : Makes Integers x_is_y branch
x_made = record {
  suits = (omega arith, (tt, ((tt, (tt, tt)), tt)));
  is_plain = (tt, ((tt, (tt, tt)), tt));
  in_context = (tt, ((omega arith, (omega arith, tt)), tt));
  equivalent = x_put_in;
}

y_put_in : (p : Point ℕ) → Of Integers p → TrueAt Integers (substitution Integers y_is_far.name y_is_far.place branch) p ↔ TrueAt Integers Yes p
unfolding value coefficient without plus
y_put_in p o = (λ t. tt, λ t. (tt, ((pos 1, three p.below), tt)))

three_is_a_period : Divides (pos 3) (coefficient 1 (named 1) *ℤ negsuc 2)
unfolding coefficient
three_is_a_period = record { quotient = negsuc 0; exact = refl }

y_made : Makes Integers y_is_far Yes
y_made = record {
  suits = (λ (e : negsuc 2 ≡ pos 0). omega (arith, ints), three_is_a_period);
  is_plain = tt;
  in_context = omega arith;
  equivalent = y_put_in;
}

pub period_of_the_branch : PeriodOfTheBranch
period_of_the_branch = ((λ p o. (λ t. t, λ t. t), x_made), y_made)
