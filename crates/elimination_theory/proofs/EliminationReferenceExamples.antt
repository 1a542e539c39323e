-- Worked examples of the reference elimination, by hand. The names x, y, a, b and c are 0, 1, 2, 3 and 4.
use Rattle.std.proofs.Common.{None, Some, [], if◌then◌else◌, nat_eq, refl, true, ℕ, ◌∷◌, ◌≡◌}
use Rattle.std.proofs.Math.IntN.{ℤ, pos, negsuc, neg_ℤ}
use Rattle.exact_numbers.specs.Divides.{content_of, gcd_of, lcm_of, euclid}
use Rattle.exact_numbers.specs.Limit.{checked}
use Rattle.logic_meaning.specs.Context.{Fields, Integers}
use Rattle.logic_meaning.specs.Formula.{Yes, No, One, And, Or, Ex, All, none, also}
use Rattle.logic_meaning.specs.NegationNormal.{both}
use Rattle.logic_meaning.specs.Form.{Form, coefficient, without, scale, combine, plus}
use Rattle.logic_meaning.specs.Sorted.{gathered}
use Rattle.logic_meaning.specs.Atom.{Relation, Equals, Below, AtMost, Above, AtLeast, Compare, Congruent}
use Rattle.logic_meaning.specs.Answer.{Exact, AboveBy}
use Rattle.logic_meaning.specs.Tree.{Tree}
use Rattle.elimination_theory.specs.FieldsExample.{named, difference, multiple_of}
use Rattle.logic_meaning.specs.Answers.{zero_place}
use Rattle.logic_meaning.specs.FieldsPoints.{form_over}
use Rattle.logic_meaning.specs.Terms.{value_steps, total_steps}
use Rattle.logic_meaning.specs.Reduction.{quotient, residue_form}
use Rattle.logic_meaning.specs.NormalForm.{normal_atom}
use Rattle.logic_meaning.specs.Measured.{done, stopped, Nodes, Overflow}
use Rattle.logic_meaning.specs.Reference.{reference}
use Rattle.logic_meaning.specs.Cases.{reference_cases}
use Rattle.logic_meaning.specs.PutIn.{put_in}
use Rattle.logic_meaning.specs.Sample.{reference_at, chosen_steps}
use Rattle.logic_meaning.specs.Point.{Point}

-- an atom of a comparison
abbrev atom : Relation → Form → Tree
atom r f = One (Compare r f)

-- n * x + m * y
abbrev weighted : ℤ → ℕ → ℤ → ℕ → Form
weighted n x m y = record { terms = multiple_of n x ∷ multiple_of m y ∷ []; constant = pos 0 }

-- ex(x, x = a and x < b): 4 nodes, and 2 points of cost 3 + 2
abbrev equal_and_below : Tree
equal_and_below = Ex 0 (And (both (atom Equals (difference 0 2)) (atom Below (difference 0 3))))

equal_and_below_costs_14 : reference Fields 14 equal_and_below ≡ done (atom Below (difference 2 3), 14)
unfolding coefficient without scale combine form_over content_of gcd_of euclid normal_atom gathered quotient
equal_and_below_costs_14 = refl

equal_and_below_stops_at_13 : reference Fields 13 equal_and_below ≡ stopped Nodes
unfolding coefficient without scale combine form_over content_of gcd_of euclid normal_atom gathered quotient
equal_and_below_stops_at_13 = refl

-- ex(x, x > a and x < b)
abbrev between : Tree
between = Ex 0 (And (both (atom Above (difference 0 2)) (atom Below (difference 0 3))))

between_becomes : reference Fields 14 between ≡ done (atom Below (difference 2 3), 14)
unfolding coefficient without scale combine plus form_over content_of gcd_of euclid normal_atom gathered quotient
between_becomes = refl

-- ex({x,y}, x = a and y = b and x + y < c): 6 nodes, 2 points of cost 4 + 2 for y, and 2 of cost 3 + 2 for x
abbrev sum_below : Tree
sum_below = Ex 0 (Ex 1 (And (also (atom Equals (difference 0 2)) (also (atom Equals (difference 1 3))
    (also (atom Below (record { terms = multiple_of (pos 1) 0 ∷ multiple_of (pos 1) 1 ∷ multiple_of (negsuc 0) 4 ∷ []; constant = pos 0 })) none)))))

sum_below_costs_28 : reference Fields 28 sum_below ≡ done (atom Below (record { terms = multiple_of (pos 1) 2 ∷ multiple_of (pos 1) 3 ∷ multiple_of (negsuc 0) 4 ∷ []; constant = pos 0 }), 28)
unfolding coefficient without scale combine plus form_over content_of gcd_of euclid normal_atom gathered quotient
sum_below_costs_28 = refl

sum_below_stops_at_27 : reference Fields 27 sum_below ≡ stopped Nodes
unfolding coefficient without scale combine plus form_over content_of gcd_of euclid normal_atom gathered quotient
sum_below_stops_at_27 = refl

-- its one case: a + b - c < 0, with x = a and y = b
sum_below_has_one_case : reference_cases Fields 28 sum_below ≡ done (
  record {
    guard = atom Below (record { terms = multiple_of (pos 1) 2 ∷ multiple_of (pos 1) 3 ∷ multiple_of (negsuc 0) 4 ∷ []; constant = pos 0 });
    answers = record { name = 0; place = Exact (named 2) 1 } ∷ record { name = 1; place = Exact (named 3) 1 } ∷ [];
  } ∷ [],
  28,
)
unfolding coefficient without scale combine plus form_over content_of gcd_of euclid normal_atom gathered quotient
sum_below_has_one_case = refl

-- 2 * x = a over the integers: the scale and the span are 2, so 1 class and 2 numbers, each of cost 1 + 2, after 2 nodes
abbrev half_of_a : Tree
half_of_a = Ex 0 (atom Equals (weighted (pos 2) 0 (negsuc 0) 2))

half_of_a_is_even : reference Integers 11 half_of_a ≡ done (One (Congruent true 2 (named 2)), 11)
unfolding coefficient without scale combine plus content_of gcd_of lcm_of euclid normal_atom gathered quotient residue_form
half_of_a_is_even = refl

half_of_a_stops_at_10 : reference Integers 10 half_of_a ≡ stopped Nodes
unfolding coefficient without scale combine plus content_of gcd_of lcm_of euclid normal_atom gathered quotient residue_form
half_of_a_stops_at_10 = refl

-- over the fields there is always a half: 2 points
half_of_a_exists : reference Fields 8 half_of_a ≡ done (Yes, 8)
unfolding coefficient without scale combine plus form_over content_of gcd_of euclid normal_atom gathered quotient
half_of_a_exists = refl

-- ex(x, x > 0 and all(x, x < 1)): 5 nodes, and 2 points of cost 1 + 2 for the inner x; what is left is false, without x
abbrev x_twice : Tree
x_twice = Ex 0 (And (both (atom Above (named 0)) (All 0 (atom Below (record { terms = multiple_of (pos 1) 0 ∷ []; constant = negsuc 0 })))))

x_twice_is_false : reference Fields 11 x_twice ≡ done (No, 11)
unfolding coefficient without scale combine plus form_over content_of gcd_of euclid normal_atom gathered quotient
x_twice_is_false = refl

-- ex(x, ex(y, ex(x, x = y and x > a))): the chain ends before the second x, so the inner x is eliminated first, to one branch;
-- 6 nodes; its points are minus infinity, y and a + epsilon, for 3 * (3 + 2), and y - a > 0 is left at y; then y has minus infinity
-- and a + epsilon, for 2 * (1 + 2), and at the latter the branch is true; the outer x is put at 0, at no cost
abbrev x_again : Tree
x_again = Ex 0 (Ex 1 (Ex 0 (And (both (atom Equals (difference 0 1)) (atom Above (difference 0 2))))))

x_again_has_one_case : reference_cases Fields 27 x_again ≡ done (
  record {
    guard = Yes;
    answers = record { name = 0; place = zero_place } ∷ record { name = 1; place = AboveBy (named 2) 1 } ∷ [];
  } ∷ [],
  27,
)
unfolding coefficient without scale combine plus form_over content_of gcd_of euclid normal_atom gathered quotient
x_again_has_one_case = refl

-- all(x, x < a or x > b) is the negation of ex(x, x >= a and x <= b): 4 nodes, then 2 points of cost 3 + 2; a - b <= 0 is left,
-- which is the guard of its case
abbrev outside : Tree
outside = All 0 (Or (both (atom Below (difference 0 2)) (atom Above (difference 0 3))))

outside_becomes : reference Fields 14 outside ≡ done (atom Above (difference 2 3), 14)
unfolding coefficient without scale combine plus form_over content_of gcd_of euclid normal_atom gathered quotient
outside_becomes = refl

outside_has_a_case_against_it : reference_cases Fields 14 outside ≡ done (record { guard = atom AtMost (difference 2 3); answers = record { name = 0; place = Exact (named 2) 1 } ∷ [] } ∷ [], 14)
unfolding coefficient without scale combine plus form_over content_of gcd_of euclid normal_atom gathered quotient
outside_has_a_case_against_it = refl

-- ex(x, 7 * x >= 3 * a and 5 * x <= 7 * b): at 3 * a / 7
abbrev scaled_bounds : ℕ → Tree
scaled_bounds n = Ex 0 (And (both (atom AtLeast (weighted (pos n) 0 (negsuc 2) 2)) (atom AtMost (weighted (pos 5) 0 (neg_ℤ (pos n)) 3))))

scaled_bounds_become : reference Fields 14 (scaled_bounds 7) ≡ done (atom AtMost (weighted (pos 15) 2 (negsuc 48) 3), 14)
unfolding coefficient without scale combine plus form_over content_of gcd_of euclid normal_atom gathered quotient
scaled_bounds_become = refl

-- with 2 ^ 127 - 1 for 7, its square passes the limit; but the cost is added first
greatest_bounds_overflow : reference Fields 14 (scaled_bounds 170141183460469231731687303715884105727) ≡ stopped Overflow
unfolding coefficient without scale combine plus form_over content_of gcd_of euclid normal_atom gathered quotient
greatest_bounds_overflow = refl

greatest_bounds_stop_at_13 : reference Fields 13 (scaled_bounds 170141183460469231731687303715884105727) ≡ stopped Nodes
unfolding coefficient without scale combine plus form_over content_of gcd_of euclid normal_atom gathered quotient
greatest_bounds_stop_at_13 = refl

-- over the integers the span of 2 ^ 126 * x > a and 3 * x < b passes the limit, and no cost is added before
abbrev wide : Tree
wide = Ex 0 (And (both (atom Above (weighted (pos 85070591730234615865843651857942052864) 0 (negsuc 0) 2)) (atom Below (weighted (pos 3) 0 (negsuc 0) 3))))

wide_overflows : reference Integers 4 wide ≡ stopped Overflow
unfolding coefficient without scale combine plus content_of gcd_of lcm_of euclid normal_atom gathered quotient residue_form
wide_overflows = refl

-- ---- a point put in, and the sample

-- a = 1/2 and b = 3/2, all others 0
abbrev halves : Point ℕ
halves = record { at = λ x. if nat_eq x 2 then pos 1 else if nat_eq x 3 then pos 3 else pos 0; below = 2 }

-- 2 * x - n
abbrev twice : ℤ → Form
twice n = record { terms = multiple_of (pos 2) 0 ∷ []; constant = n }

-- x > a and x < b become 2 * x - 1 > 0 and 2 * x - 3 < 0
abbrev inner : Tree
inner = And (both (atom Above (twice (negsuc 0))) (atom Below (twice (negsuc 2))))

halves_put_in : put_in Fields halves between ≡ Ex 0 inner
unfolding content_of gcd_of euclid normal_atom gathered quotient
halves_put_in = refl

-- the bound name is not put in
bound_name_stays : put_in Fields halves (Ex 2 (atom Above (difference 2 3))) ≡ Ex 2 (atom Above (record { terms = multiple_of (pos 2) 2 ∷ []; constant = negsuc 2 }))
unfolding content_of gcd_of euclid normal_atom gathered quotient
bound_name_stays = refl

-- at minus infinity false is left, at 1/2 + epsilon true
halves_chosen : chosen_steps Fields 14 halves between
    ≡ done (Some (record { name = 0; place = AboveBy (record { terms = []; constant = pos 1 }) 2; branch = inner } ∷ []), 14)
unfolding coefficient without scale combine plus form_over content_of gcd_of euclid normal_atom gathered quotient value_steps total_steps checked
halves_chosen = refl

-- between a and a there is nothing
nothing_chosen : chosen_steps Fields 14 halves (Ex 0 (And (both (atom Above (difference 0 2)) (atom Below (difference 0 2))))) ≡ done (None, 14)
unfolding coefficient without scale combine plus form_over content_of gcd_of euclid normal_atom gathered quotient value_steps total_steps checked
nothing_chosen = refl

-- a = 2 ^ 126 with the denominator 3, over which 5 * a passes the limit: but the nodes are counted first
abbrev far : Point ℕ
far = record { at = λ x. pos 85070591730234615865843651857942052864; below = 3 }

abbrev five_times : Tree
five_times = Ex 0 (atom Above (weighted (pos 1) 0 (negsuc 4) 2))

far_overflows : reference_at Fields 8 far five_times ≡ stopped Overflow
unfolding coefficient without scale combine plus form_over content_of gcd_of euclid normal_atom gathered quotient value_steps total_steps checked
far_overflows = refl

far_stops_at_1 : reference_at Fields 1 far five_times ≡ stopped Nodes
unfolding coefficient without scale combine plus form_over content_of gcd_of euclid normal_atom gathered quotient value_steps total_steps checked
far_stops_at_1 = refl
