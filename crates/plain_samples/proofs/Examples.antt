-- Worked examples of the reference sample, by hand. The names x, a and b are 0, 2 and 3.
use Rattle.std.proofs.Common.{◌≡◌, ℕ, None, Some, [], ◌∷◌, if◌then◌else◌, nat_eq, refl, true}
use Rattle.std.proofs.Math.IntN.{ℤ, pos, negsuc}
use Rattle.exact_numbers.specs.Divides.{content_of, gcd_of, lcm_of, euclid}
use Rattle.exact_numbers.specs.Frac.{inverted, sum_step, product_step}
use Rattle.exact_numbers.specs.Limit.{checked}
use Rattle.logic_meaning.specs.Context.{Fields, Integers}
use Rattle.logic_meaning.specs.Formula.{One, And, Ex}
use Rattle.logic_meaning.specs.NegationNormal.{both}
use Rattle.logic_meaning.specs.Form.{Form, coefficient, without, scale, combine, plus}
use Rattle.logic_meaning.specs.Sorted.{gathered}
use Rattle.logic_meaning.specs.Atom.{Relation, Below, Above, Compare, Congruent}
use Rattle.logic_meaning.specs.Point.{Point}
use Rattle.logic_meaning.specs.Tree.{Tree}
use Rattle.elimination_theory.specs.FieldsExample.{named, difference, multiple_of}
use Rattle.logic_meaning.specs.FieldsPoints.{form_over}
use Rattle.logic_meaning.specs.Terms.{value_steps, total_steps}
use Rattle.logic_meaning.specs.Reduction.{quotient, residue_form}
use Rattle.logic_meaning.specs.NormalForm.{normal_atom}
use Rattle.logic_meaning.specs.Measured.{done}
use Rattle.logic_meaning.specs.ReferenceSample.{reference_sample}
use Rattle.sample_reference.specs.TrueSample.{closed_sample}

abbrev atom : Relation → Form → Tree
atom r f = One (Compare r f)

-- ex(x, x > a and x < b)
abbrev between : Tree
between = Ex 0 (And (both (atom Above (difference 0 2)) (atom Below (difference 0 3))))

-- a = 1/2 and b = 3/2
abbrev halves : Point ℕ
halves = record { at = λ x. if nat_eq x 2 then pos 1 else (if nat_eq x 3 then pos 3 else pos 0); below = 2 }

-- just above 1/2, halfway to the next number at which an atom changes, which is 3/2
one_between : reference_sample Fields 14 halves between ≡ done (Some (record { name = 0; at = record { numerator = pos 1; denominator = pos 1 } } ∷ []), 14)
unfolding coefficient without scale combine plus form_over content_of gcd_of lcm_of euclid normal_atom gathered quotient value_steps total_steps checked inverted sum_step product_step
one_between = refl

-- ex(x, x < 0 and cong(x,1,3)): below 0 the greatest number that leaves 1 by 3
abbrev below_in_class : Tree
below_in_class = Ex 0 (And (both (atom Below (named 0)) (One (Congruent true 3 (record { terms = multiple_of (pos 1) 0 ∷ []; constant = pos 2 })))))

two_below : closed_sample Integers 19 below_in_class ≡ done (Some (record { name = 0; at = record { numerator = negsuc 1; denominator = pos 1 } } ∷ []), 19)
unfolding coefficient without scale combine plus form_over content_of gcd_of lcm_of euclid normal_atom gathered quotient residue_form value_steps total_steps checked inverted sum_step product_step
two_below = refl

-- between a and a there is nothing
none_between : reference_sample Fields 14 halves (Ex 0 (And (both (atom Above (difference 0 2)) (atom Below (difference 0 2))))) ≡ done (None, 14)
unfolding coefficient without scale combine plus form_over content_of gcd_of euclid normal_atom gathered quotient value_steps total_steps checked
none_between = refl
