-- Worked examples of the value at a place, by hand. The names x and y are 0 and 1.
use Rattle.std.proofs.Common.{◌≡◌, ℕ, Some, [], ◌∷◌, refl, true, nat_eq, if◌then◌else◌}
use Rattle.std.proofs.Math.IntN.{ℤ, pos, negsuc}
use Rattle.exact_numbers.specs.Divides.{content_of, gcd_of, lcm_of, euclid}
use Rattle.exact_numbers.specs.Frac.{Frac, inverted, sum_step, product_step}
use Rattle.exact_numbers.specs.Limit.{checked}
use Rattle.logic_meaning.specs.Context.{Fields, Integers}
use Rattle.logic_meaning.specs.Point.{Point}
use Rattle.logic_meaning.specs.Formula.{One, And}
use Rattle.logic_meaning.specs.NegationNormal.{both}
use Rattle.logic_meaning.specs.Form.{Form, coefficient, without, scale, combine, plus}
use Rattle.logic_meaning.specs.Sorted.{gathered}
use Rattle.logic_meaning.specs.Atom.{Relation, Differs, Below, AtMost, Above, AtLeast, Compare, Congruent}
use Rattle.logic_meaning.specs.Answer.{BelowBy, PlusInfinity, Periodic}
use Rattle.logic_meaning.specs.Tree.{Tree}
use Rattle.elimination_theory.specs.FieldsExample.{named, multiple_of}
use Rattle.logic_meaning.specs.FieldsPoints.{form_over}
use Rattle.logic_meaning.specs.Terms.{value_steps, total_steps}
use Rattle.logic_meaning.specs.Reduction.{quotient, residue_form}
use Rattle.logic_meaning.specs.NormalForm.{normal_atom}
use Rattle.logic_meaning.specs.Values.{origin}
use Rattle.logic_meaning.specs.Calculated.{place_value}

-- n * x + k
abbrev of_x : ℤ → ℤ → Form
of_x n k = record { terms = multiple_of n 0 ∷ []; constant = k }

abbrev atom : Relation → Form → Tree
atom r f = One (Compare r f)

-- x leaves j modulo n
abbrev leaves : ℤ → ℕ → Tree
leaves j n = One (Congruent true n (of_x (pos 1) j))

abbrev fraction : ℤ → ℤ → Frac
fraction n d = record { numerator = n; denominator = d }

-- y = 3/2
abbrev three_halves : Point ℕ
three_halves = record { at = λ x. if nat_eq x 1 then pos 3 else pos 0; below = 2 }

-- ---- fields

-- 2 * x > 1 and x < y: just below y = 3/2 is half way to 1/2, the greatest number below it at which an atom changes
short_of_y : place_value Fields 0 (BelowBy (named 1) 1) (And (both (atom Above (of_x (pos 2) (negsuc 0))) (atom Below (record { terms = multiple_of (pos 1) 0 ∷ multiple_of (negsuc 0) 1 ∷ []; constant = pos 0 })))) three_halves
    ≡ Some (fraction (pos 1) (pos 1))
unfolding coefficient without scale combine plus form_over content_of gcd_of lcm_of euclid normal_atom gathered quotient value_steps total_steps checked inverted sum_step product_step
short_of_y = refl

-- 3 * x < 1 alone: just below 1/3 is one less
short_of_third : place_value Fields 0 (BelowBy (record { terms = []; constant = pos 1 }) 3) (atom Below (of_x (pos 3) (negsuc 0))) origin ≡ Some (fraction (negsuc 1) (pos 3))
unfolding coefficient without scale combine plus form_over content_of gcd_of lcm_of euclid normal_atom gathered quotient value_steps total_steps checked inverted sum_step product_step
short_of_third = refl

-- x > -4 and 2 * x != 5: one more than 5/2
above_both : place_value Fields 0 PlusInfinity (And (both (atom Above (of_x (pos 1) (pos 4))) (atom Differs (of_x (pos 2) (negsuc 4))))) origin ≡ Some (fraction (pos 7) (pos 2))
unfolding coefficient without scale combine plus form_over content_of gcd_of lcm_of euclid normal_atom gathered quotient value_steps total_steps checked inverted sum_step product_step
above_both = refl

-- y > 1 has no number at which it changes with x
above_nothing : place_value Fields 0 PlusInfinity (atom Above (record { terms = multiple_of (pos 1) 1 ∷ []; constant = negsuc 0 })) three_halves ≡ Some (fraction (pos 0) (pos 1))
unfolding coefficient without scale combine plus form_over content_of gcd_of lcm_of euclid normal_atom gathered quotient value_steps total_steps checked inverted sum_step product_step
above_nothing = refl

-- ---- integers

-- x <= 3 and x is odd: the greatest odd number below 3
odd_below : place_value Integers 0 (Periodic (pos 1) (negsuc 1)) (And (both (atom AtMost (of_x (pos 1) (negsuc 2))) (leaves (pos 1) 2))) origin ≡ Some (fraction (pos 1) (pos 1))
unfolding coefficient without scale combine plus form_over content_of gcd_of lcm_of euclid normal_atom gathered quotient residue_form value_steps total_steps checked inverted sum_step product_step
odd_below = refl

-- x > 3 and x is odd: the least odd number above 3
odd_above : place_value Integers 0 (Periodic (pos 1) (pos 2)) (And (both (atom Above (of_x (pos 1) (negsuc 2))) (leaves (pos 1) 2))) origin ≡ Some (fraction (pos 5) (pos 1))
unfolding coefficient without scale combine plus form_over content_of gcd_of lcm_of euclid normal_atom gathered quotient residue_form value_steps total_steps checked inverted sum_step product_step
odd_above = refl

-- 3 * x >= 10, which is x > 3 in normal form, and x is even: the least even number above 3
even_above : place_value Integers 0 (Periodic (pos 0) (pos 2)) (And (both (atom AtLeast (of_x (pos 3) (negsuc 9))) (leaves (pos 0) 2))) origin ≡ Some (fraction (pos 4) (pos 1))
unfolding coefficient without scale combine plus form_over content_of gcd_of lcm_of euclid normal_atom gathered quotient residue_form value_steps total_steps checked inverted sum_step product_step
even_above = refl

-- x is odd and nothing else: the number of the class itself
odd_alone : place_value Integers 0 (Periodic (pos 1) (pos 2)) (leaves (pos 1) 2) origin ≡ Some (fraction (pos 1) (pos 1))
unfolding coefficient without scale combine plus form_over content_of gcd_of lcm_of euclid normal_atom gathered quotient residue_form value_steps total_steps checked inverted sum_step product_step
odd_alone = refl
