-- Worked examples, by hand. The names x, y and z are 0, 1 and 2.
use Rattle.std.proofs.Common.{◌≡◌, ℕ, Some, List, [], ◌∷◌, refl, true}
use Rattle.std.proofs.Math.IntN.{ℤ, pos, negsuc}
use Rattle.exact_numbers.specs.Divides.{content_of, gcd_of, lcm_of, euclid}
use Rattle.exact_numbers.specs.Frac.{inverted, sum_step, product_step}
use Rattle.exact_numbers.specs.Limit.{checked}
use Rattle.logic_meaning.specs.Context.{Fields, Integers}
use Rattle.logic_meaning.specs.Formula.{Yes, One, And}
use Rattle.logic_meaning.specs.NegationNormal.{both}
use Rattle.logic_meaning.specs.Form.{Form, coefficient, without, scale, combine, plus}
use Rattle.logic_meaning.specs.Sorted.{gathered}
use Rattle.logic_meaning.specs.Atom.{Relation, Equals, Below, Above, Compare, Congruent}
use Rattle.logic_meaning.specs.Answer.{Place, Answer, Exact, AboveBy, BelowBy, PlusInfinity, Periodic}
use Rattle.logic_meaning.specs.Tree.{Tree}
use Rattle.elimination_theory.specs.FieldsExample.{named, difference, multiple_of}
use Rattle.logic_meaning.specs.FieldsPoints.{form_over}
use Rattle.logic_meaning.specs.Terms.{value_steps, total_steps}
use Rattle.logic_meaning.specs.Reduction.{quotient, residue_form}
use Rattle.logic_meaning.specs.NormalForm.{normal_atom}
use Rattle.case_theory.specs.PutThrough.{put_through}
use Rattle.logic_meaning.specs.Values.{Value}
use Rattle.logic_meaning.specs.Calculated.{values_from}
use Rattle.case_theory.specs.Samples.{named_value, answer_steps}

-- n * x + k
abbrev one_name : ℤ → ℕ → ℤ → Form
one_name n x k = record { terms = multiple_of n x ∷ []; constant = k }

abbrev number : ℤ → Form
number k = record { terms = []; constant = k }

abbrev atom : Relation → Form → Tree
atom r f = One (Compare r f)

abbrev at : ℕ → Place → Answer
at x s = record { name = x; place = s }

abbrev valued : ℕ → ℤ → ℤ → Value
valued x n d = named_value x (record { numerator = n; denominator = d })

-- ---- denominators

-- 2 * y < 3, x < y and 3 * x > 1, with y just below 3/2 and x just above 1/3
abbrev between : Tree
between = And (both (atom Below (one_name (pos 2) 1 (negsuc 2))) (And (both (atom Below (difference 0 1)) (atom Above (one_name (pos 3) 0 (negsuc 0))))))

abbrev between_answers : List Answer
between_answers = at 1 (BelowBy (number (pos 3)) 2) ∷ at 0 (AboveBy (number (pos 1)) 3) ∷ []

-- y is half way from 3/2 to 1/3, and then x is half way from 1/3 to y
denominators : values_from Fields (answer_steps Fields between_answers between) [] ≡ Some (valued 1 (pos 11) (pos 12) ∷ valued 0 (pos 5) (pos 8) ∷ [])
unfolding coefficient without scale combine plus form_over content_of gcd_of lcm_of euclid normal_atom gathered quotient value_steps total_steps checked inverted sum_step product_step
denominators = refl

-- ---- a known value

-- y > z with y just above z, where z is 1/2
behind_known : values_from Fields (answer_steps Fields (at 1 (AboveBy (named 2) 1) ∷ []) (atom Above (difference 1 2))) (valued 2 (pos 1) (pos 2) ∷ []) ≡ Some (valued 2 (pos 1) (pos 2) ∷ valued 1 (pos 3) (pos 2) ∷ [])
unfolding coefficient without scale combine plus form_over content_of gcd_of lcm_of euclid normal_atom gathered quotient value_steps total_steps checked inverted sum_step product_step
behind_known = refl

-- ---- modulus 2

-- y = x, y > 3 and y is odd, with x far up in the class of 1 modulo 2 and y at x
abbrev odd : Tree
odd = And (both (atom Equals (difference 1 0)) (And (both (atom Above (one_name (pos 1) 1 (negsuc 2))) (One (Congruent true 2 (one_name (pos 1) 1 (pos 1)))))))

-- both are the least odd number above 3
odd_above : values_from Integers (answer_steps Integers (at 0 (Periodic (pos 1) (pos 2)) ∷ at 1 (Exact (named 0) 1) ∷ []) odd) [] ≡ Some (valued 0 (pos 5) (pos 1) ∷ valued 1 (pos 5) (pos 1) ∷ [])
unfolding coefficient without scale combine plus form_over content_of gcd_of lcm_of euclid normal_atom gathered quotient residue_form value_steps total_steps checked inverted sum_step product_step
odd_above = refl

-- ---- a name that cancels

-- y - x < 1 with y at x is true whatever x is
cancelled : put_through Fields (at 1 (Exact (named 0) 1) ∷ []) (atom Below (record { terms = multiple_of (negsuc 0) 0 ∷ multiple_of (pos 1) 1 ∷ []; constant = negsuc 0 })) ≡ Yes
unfolding coefficient without scale combine plus form_over content_of gcd_of lcm_of euclid normal_atom gathered quotient
cancelled = refl

-- so x, beyond all numbers, is 0
nothing_left : values_from Fields (answer_steps Fields (at 0 PlusInfinity ∷ at 1 (Exact (named 0) 1) ∷ []) (atom Below (record { terms = multiple_of (negsuc 0) 0 ∷ multiple_of (pos 1) 1 ∷ []; constant = negsuc 0 }))) []
    ≡ Some (valued 0 (pos 0) (pos 1) ∷ valued 1 (pos 0) (pos 1) ∷ [])
unfolding coefficient without scale combine plus form_over content_of gcd_of lcm_of euclid normal_atom gathered quotient value_steps total_steps checked inverted sum_step product_step
nothing_left = refl
