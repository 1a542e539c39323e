-- A congruence with a name put at a place of the integers, as the program reaches it.
use Rattle.std.proofs.Common.{◌≡◌, ℕ, zero, suc, ◌*◌, Bool, true, false, ◌&&◌, sym, ap, ap₂, ◌∙◌, subst, refl, arith, unsigned_abs}
use Rattle.std.proofs.Math.IntN.{ℤ, pos, negsuc, ◌+ℤ◌, ◌*ℤ◌}
use Rattle.std.specs.Prelude.{◌<ℤ◌}
use Rattle.std.proofs.lemmas.Int.{ints}
use Rattle.exact_numbers.specs.Limit.{InLimit}
use Rattle.exact_numbers.proofs.Order.{mul_positive}
use Rattle.logic_meaning.specs.Context.{Integers}
use Rattle.logic_meaning.specs.Form.{Form, coefficient, without, plus}
use Rattle.logic_meaning.specs.Combining.{AddWithin, CombinePasses}
use Rattle.logic_meaning.specs.Atom.{Congruent}
use Rattle.logic_meaning.specs.Answer.{Exact, Periodic}
use Rattle.logic_meaning.specs.Tree.{Tree}
use Rattle.formula_laws.proofs.Same.{both_true}
use Rattle.formula_laws.proofs.Values.{pos_mul}
use Rattle.logic_meaning.specs.Substitution.{form_at, where_zero}
use Rattle.logic_meaning.specs.IntegersSubstitution.{put_number}
use Rattle.elimination_theory.proofs.LowestTerms.{natural}
use Rattle.logic_meaning.specs.Limits.{is_within, sum_within, combination_within}
use Rattle.logic_meaning.specs.StopLimits.{normal_within}
use Rattle.linear_forms.specs.Combinations.{IsCombination}
use Rattle.logic_meaning.specs.NormalForm.{normal_atom}
use Rattle.test_points.specs.Substituted.{put_at, put_within}
use Rattle.elimination_theory.proofs.WithinTests.{within_tests, sum_tests, combination_tested, combination_refused}
use Rattle.test_points.proofs.Ended.{congruent_at, first_false, second_false}

not_zero : {X : Type 0} (z : ℤ) (a b : X) → ¬ (z ≡ pos 0) → where_zero z a b ≡ b
not_zero (pos zero) a b n = absurd (n refl)
not_zero (pos (suc k)) a b n = refl
not_zero (negsuc k) a b n = refl

-- the product of two positive numbers
pub record IsMultiplied (m : ℤ) (d n : ℕ) : Type 0 where
  pub value : m ≡ pos (d * n)
  pub positive : pos 0 <ℤ m
  pub within : InLimit m

pub multiplied : (m a b o n : ℤ) → m ≡ a *ℤ b → a ≡ o → b ≡ n → pos 0 <ℤ o → pos 0 <ℤ n → InLimit m → IsMultiplied m (unsigned_abs o) (unsigned_abs n)
multiplied m a b o n e f g h k w =
    let v : m ≡ o *ℤ n = e ∙ ap₂ (λ x y. x *ℤ y) f g in
    record {
      value = v ∙ ap₂ (λ x y. x *ℤ y) (natural o (omega (arith, ints))) (natural n (omega (arith, ints))) ∙ sym (pos_mul (unsigned_abs o) (unsigned_abs n));
      positive = subst (λ (z : ℤ). pos 0 <ℤ z) (sym v) (mul_positive h k);
      within = w;
    }

module _ (x : ℕ) (e : Form) (d : ℕ) (b : Bool) (n : ℕ) (f v : Form) (stands : ¬ (coefficient x f ≡ pos 0)) where
  exact_is : put_at Integers x (Exact e d) (Congruent b n f) ≡ normal_atom Integers (Congruent b (d * n) (form_at x e d f))
  exact_is = ap (normal_atom Integers) (not_zero (coefficient x f) (Congruent b n f) (Congruent b (d * n) (form_at x e d f)) stands)

  exact_same : (m : ℤ) → m ≡ pos (d * n) → IsCombination (coefficient x f) e (pos d) (without x f) v → normal_atom Integers (Congruent b (unsigned_abs m) v) ≡ put_at Integers x (Exact e d) (Congruent b n f)
  exact_same m k h = ap (λ (z : ℤ). normal_atom Integers (Congruent b (unsigned_abs z) v)) k ∙ congruent_at Integers x e d f v b (d * n) h ∙ sym exact_is

  pub exact_tree : (m : ℤ) (t : Tree) → m ≡ pos (d * n) → IsCombination (coefficient x f) e (pos d) (without x f) v → t ≡ normal_atom Integers (Congruent b (unsigned_abs m) v) → t ≡ put_at Integers x (Exact e d) (Congruent b n f)
  exact_tree m t k h i = i ∙ exact_same m k h

  pub exact_within : (m : ℤ) → m ≡ pos (d * n) → InLimit m → IsCombination (coefficient x f) e (pos d) (without x f) v → normal_within (normal_atom Integers (Congruent b (unsigned_abs m) v)) ≡ true → put_within Integers x (Exact e d) (Congruent b n f) ≡ true
  exact_within m k w h i =
      let c = combination_within (coefficient x f) e (pos d) (without x f) in
      both_true (c && is_within (pos (d * n))) (normal_within (put_at Integers x (Exact e d) (Congruent b n f)))
      (both_true c (is_within (pos (d * n))) (combination_tested (coefficient x f) e (pos d) (without x f) h.within) ((within_tests (pos (d * n))).1 (subst InLimit k w)))
      (ap normal_within (sym (exact_same m k h)) ∙ i)

  pub exact_refused : (m : ℤ) → m ≡ pos (d * n) → IsCombination (coefficient x f) e (pos d) (without x f) v → normal_within (normal_atom Integers (Congruent b (unsigned_abs m) v)) ≡ false → put_within Integers x (Exact e d) (Congruent b n f) ≡ false
  exact_refused m k h i =
      second_false (combination_within (coefficient x f) e (pos d) (without x f) && is_within (pos (d * n))) (normal_within (put_at Integers x (Exact e d) (Congruent b n f)))
      (ap normal_within (sym (exact_same m k h)) ∙ i)

  pub form_refused : CombinePasses (coefficient x f) e (pos d) (without x f) → put_within Integers x (Exact e d) (Congruent b n f) ≡ false
  form_refused h =
      let c = combination_within (coefficient x f) e (pos d) (without x f) in
      first_false (c && is_within (pos (d * n))) (normal_within (put_at Integers x (Exact e d) (Congruent b n f)))
      (first_false c (is_within (pos (d * n))) (combination_refused (coefficient x f) e (pos d) (without x f) h))

module _ (x : ℕ) (j q : ℤ) (b : Bool) (n : ℕ) (f v : Form) (stands : ¬ (coefficient x f ≡ pos 0)) where
  class_is : put_at Integers x (Periodic j q) (Congruent b n f) ≡ normal_atom Integers (Congruent b n (put_number x j f))
  class_is = ap (normal_atom Integers) (not_zero (coefficient x f) (Congruent b n f) (Congruent b n (put_number x j f)) stands)

  class_same : v ≡ put_number x j f → normal_atom Integers (Congruent b n v) ≡ put_at Integers x (Periodic j q) (Congruent b n f)
  class_same h = ap (λ (g : Form). normal_atom Integers (Congruent b n g)) h ∙ sym class_is

  pub class_tree : (t : Tree) → v ≡ put_number x j f → t ≡ normal_atom Integers (Congruent b n v) → t ≡ put_at Integers x (Periodic j q) (Congruent b n f)
  class_tree t h i = i ∙ class_same h

  pub class_within : v ≡ put_number x j f → AddWithin (coefficient x f *ℤ j) f.constant → normal_within (normal_atom Integers (Congruent b n v)) ≡ true → put_within Integers x (Periodic j q) (Congruent b n f) ≡ true
  class_within h w i =
      both_true (sum_within (coefficient x f *ℤ j) f.constant) (normal_within (put_at Integers x (Periodic j q) (Congruent b n f))) ((sum_tests (coefficient x f *ℤ j) f.constant).1 w)
      (ap normal_within (sym (class_same h)) ∙ i)

  pub class_refused : v ≡ put_number x j f → normal_within (normal_atom Integers (Congruent b n v)) ≡ false → put_within Integers x (Periodic j q) (Congruent b n f) ≡ false
  class_refused h i =
      second_false (sum_within (coefficient x f *ℤ j) f.constant) (normal_within (put_at Integers x (Periodic j q) (Congruent b n f))) (ap normal_within (sym (class_same h)) ∙ i)

-- the form with the constant that the program computes
pub number_put : (x : ℕ) (f r v : Form) (j k c : ℤ) → r ≡ without x f → v ≡ record { terms = r.terms; constant = c } → c ≡ coefficient x f *ℤ k +ℤ f.constant → k ≡ j → v ≡ put_number x j f
unfolding without plus
number_put x f r v j k c h e d i =
    let n : c ≡ f.constant +ℤ coefficient x f *ℤ j = d ∙ ap (λ z. coefficient x f *ℤ z +ℤ f.constant) i ∙ omega (arith, ints) in
    e ∙ (λ t. record { terms = (h t).terms; constant = n t })
