-- The greatest common divisor of two lists, and rows in lowest terms.
use Rattle.std.proofs.Common.{◌≡◌, List, [], ◌∷◌, ◌++◌, ap, sym, ◌∙◌, subst, refl, arith, if◌then◌else◌}
use Rattle.std.proofs.Math.IntN.{ℤ, pos}
use Rattle.std.specs.Prelude.{◌≤ℤ◌}
use Rattle.std.proofs.lemmas.Int.{ints}
use Rattle.exact_numbers.specs.Divides.{IsGcd, gcd_of, content_of}
use Rattle.exact_numbers.specs.Division.{DividesAll}
use Rattle.exact_numbers.proofs.Contents.{content_is, divides_all_trans}
use Rattle.exact_numbers.proofs.Divisibility.{divides_trans, divides_zero, divides_same}
use Rattle.exact_numbers.proofs.GreatestDivisor.{gcd_is, gcd_of_is}
use Rattle.linear_forms.proofs.Quotients.{quotient_one}
use Rattle.linear_forms.proofs.Reduced.{by_equal}
use Rattle.logic_meaning.specs.Rows.{Row, numbers_of, row_content, row_quotient, lowest_row}

-- one number more in front
pub content_first : (x : ℤ) (xs : List ℤ) → gcd_of x (content_of xs) ≡ content_of (x ∷ xs)
unfolding content_of
content_first x xs = refl

gcd_of_nothing : (g : ℤ) → pos 0 ≤ℤ g → g ≡ gcd_of (pos 0) g
gcd_of_nothing g h = gcd_of_is (record { not_negative = h; left = divides_zero g; right = divides_same g; greatest = λ d a b. b })

gcd_assoc : (x a b : ℤ) → gcd_of x (gcd_of a b) ≡ gcd_of (gcd_of x a) b
gcd_assoc x a b =
    let o = gcd_is x (gcd_of a b) in
    let i = gcd_is a b in
    let j = gcd_is x a in
    gcd_of_is (record {
      not_negative = o.not_negative;
      left = j.greatest (gcd_of x (gcd_of a b)) o.left (divides_trans o.right i.left);
      right = divides_trans o.right i.right;
      greatest = λ d h k. o.greatest d (divides_trans h j.left) (i.greatest d (divides_trans h j.right) k);
    })

-- the numbers of two lists
pub content_both : (xs ys : List ℤ) → content_of (xs ++ ys) ≡ gcd_of (content_of xs) (content_of ys)
unfolding content_of
content_both [] ys = gcd_of_nothing (content_of ys) (content_is ys).not_negative
content_both (x ∷ xs) ys = ap (gcd_of x) (content_both xs ys) ∙ gcd_assoc x (content_of xs) (content_of ys)

module _ (r : Row) where
  whole : IsGcd (content_of (numbers_of r.form)) (content_of (numbers_of r.multipliers)) (row_content r)
  whole = subst (IsGcd (content_of (numbers_of r.form)) (content_of (numbers_of r.multipliers))) (sym (content_both (numbers_of r.form) (numbers_of r.multipliers))) (gcd_is (content_of (numbers_of r.form)) (content_of (numbers_of r.multipliers)))

  -- the content divides the numbers of both forms
  pub divides_form : DividesAll (row_content r) (numbers_of r.form)
  divides_form = divides_all_trans (numbers_of r.form) whole.left (content_is (numbers_of r.form)).divides

  pub divides_multipliers : DividesAll (row_content r) (numbers_of r.multipliers)
  divides_multipliers = divides_all_trans (numbers_of r.multipliers) whole.right (content_is (numbers_of r.multipliers)).divides

  -- where it is 0 or 1 the row stays as it is,
  pub lowest_small : row_content r ≤ℤ pos 1 → r ≡ lowest_row r
  lowest_small h =
      by_equal (λ b. r ≡ (if b then r else row_quotient r (row_content r))) (row_content r) (pos 0)
      (λ _. refl)
      (λ n. let z = whole.not_negative in let e : row_content r ≡ pos 1 = one (row_content r) z h n in by_one e)
    where
      one : (g : ℤ) → pos 0 ≤ℤ g → g ≤ℤ pos 1 → ¬ (g ≡ pos 0) → g ≡ pos 1
      one g z h n = by_equal (λ _. g ≡ pos 1) g (pos 1) (λ e. e) (λ m. absurd (n (omega (arith, ints))))

      by_one : row_content r ≡ pos 1 → r ≡ row_quotient r (row_content r)
      by_one e =
          let f = sym (quotient_one r.form) in
          let m = sym (quotient_one r.multipliers) in
          subst (λ (d : ℤ). r ≡ row_quotient r d) (sym e) (λ i. record { form = f i; strict = r.strict; multipliers = m i })
