-- Worked examples of the definitions, by hand. Each side is computed. The names x, a and b are 0, 1 and 2.
use Rattle.std.proofs.Common.{◌≡◌, ℕ, true, false, List, [], ◌∷◌, map, refl, arith, inl, inr}
use Rattle.std.proofs.Math.IntN.{ℤ, pos, negsuc, neg_ℤ}
use Rattle.std.proofs.lemmas.Int.{ints}
use Rattle.exact_numbers.specs.Divides.{Divides, content_of, gcd_of, lcm_of, euclid}
use Rattle.logic_meaning.specs.Context.{Context, Fields, Integers}
use Rattle.logic_meaning.specs.Point.{Point, move}
use Rattle.logic_meaning.specs.Formula.{Yes, No, One, And}
use Rattle.logic_meaning.specs.NegationNormal.{both}
use Rattle.logic_meaning.specs.Form.{Form, coefficient, without, scale, combine, plus, value}
use Rattle.logic_meaning.specs.Atom.{Relation, Equals, Differs, Below, AtMost, Above, AtLeast, Atom, Compare, Congruent}
use Rattle.logic_meaning.specs.Answer.{Exact, AboveBy, BelowBy, MinusInfinity, Periodic}
use Rattle.logic_meaning.specs.Tree.{Tree}
use Rattle.logic_meaning.specs.declared.side.Side.TheVariants.{Lower, Upper}
use Rattle.elimination_theory.specs.FieldsExample.{open_interval, named, difference, multiple_of}
use Rattle.logic_meaning.specs.Substitution.{beyond, form_at}
use Rattle.logic_meaning.specs.FieldsPoints.{form_over, comparison_points, field_points_of}
use Rattle.logic_meaning.specs.FieldsSubstitution.{beside}
use Rattle.logic_meaning.specs.IntegersSubstitution.{integer_atom}
use Rattle.logic_meaning.specs.IntegersPoints.{scale_of, own_span, comparison_starts, integer_count_of}
use Rattle.elimination_theory.specs.IntegersSample.{IsIntegerSample}
use Rattle.elimination_theory.specs.Samples.{form_with, tree_with, KeepsPeriods}
use Rattle.logic_meaning.specs.Steps.{step}
use Rattle.elimination_theory.specs.StepTheorems.{IsNormaliser}

abbrev relations : List Relation
relations = Equals ∷ Differs ∷ Below ∷ AtMost ∷ Above ∷ AtLeast ∷ []

-- n * a + m
abbrev a_form : ℤ → ℤ → Form
a_form n m = record { terms = multiple_of n 1 ∷ []; constant = m }

-- ---- the fields: 4 * x + 2 * a relation 0, at -a/2

abbrev rest : Form
rest = a_form (pos 2) (pos 0)

abbrev half : Form
half = a_form (negsuc 0) (pos 0)

lower_points_of_positive : map (λ r. comparison_points Lower (pos 4) r rest) relations
    ≡ (Exact half 2 ∷ []) ∷ (AboveBy half 2 ∷ []) ∷ [] ∷ [] ∷ (AboveBy half 2 ∷ []) ∷ (Exact half 2 ∷ []) ∷ []
unfolding scale form_over content_of gcd_of euclid
lower_points_of_positive = refl

upper_points_of_positive : map (λ r. comparison_points Upper (pos 4) r rest) relations
    ≡ (Exact half 2 ∷ []) ∷ (BelowBy half 2 ∷ []) ∷ (BelowBy half 2 ∷ []) ∷ (Exact half 2 ∷ []) ∷ [] ∷ [] ∷ []
unfolding scale form_over content_of gcd_of euclid
upper_points_of_positive = refl

-- -4 * x + 2 * a relation 0, at a/2
abbrev other_half : Form
other_half = a_form (pos 1) (pos 0)

lower_points_of_negative : map (λ r. comparison_points Lower (negsuc 3) r rest) relations
    ≡ (Exact other_half 2 ∷ []) ∷ (AboveBy other_half 2 ∷ []) ∷ (AboveBy other_half 2 ∷ []) ∷ (Exact other_half 2 ∷ []) ∷ [] ∷ [] ∷ []
unfolding scale form_over content_of gcd_of euclid
lower_points_of_negative = refl

upper_points_of_negative : map (λ r. comparison_points Upper (negsuc 3) r rest) relations
    ≡ (Exact other_half 2 ∷ []) ∷ (BelowBy other_half 2 ∷ []) ∷ [] ∷ [] ∷ (BelowBy other_half 2 ∷ []) ∷ (Exact other_half 2 ∷ []) ∷ []
unfolding scale form_over content_of gcd_of euclid
upper_points_of_negative = refl

no_point_without_x : map (λ r. comparison_points Lower (pos 0) r rest) relations ≡ [] ∷ [] ∷ [] ∷ [] ∷ [] ∷ [] ∷ []
no_point_without_x = refl

-- x >= a, 2 * x >= 2 * a and x = a have one point in common: it stands once, at its first place
equal_points_stand_once : field_points_of Lower 0 (Compare AtLeast (difference 0 1) ∷ Compare AtLeast (record { terms = multiple_of (pos 2) 0 ∷ multiple_of (negsuc 1) 1 ∷ []; constant = pos 0 }) ∷ Compare Equals (difference 0 1) ∷ [])
    ≡ MinusInfinity ∷ Exact (named 1) 1 ∷ []
unfolding coefficient without scale form_over content_of gcd_of euclid
equal_points_stand_once = refl

-- ---- the tables of substitution, with v for the form at the place

abbrev v : Form
v = a_form (pos 1) (pos 7)

just_above_growing : map (λ r. beside (pos 3) r rest v) relations
    ≡ No ∷ Yes ∷ One (Compare Below v) ∷ One (Compare Below v) ∷ One (Compare AtLeast v) ∷ One (Compare AtLeast v) ∷ []
just_above_growing = refl

just_above_falling : map (λ r. beside (negsuc 2) r rest v) relations
    ≡ No ∷ Yes ∷ One (Compare AtMost v) ∷ One (Compare AtMost v) ∷ One (Compare Above v) ∷ One (Compare Above v) ∷ []
just_above_falling = refl

far_below_growing : map (λ r. beyond (pos 3) r rest) relations ≡ No ∷ Yes ∷ Yes ∷ Yes ∷ No ∷ No ∷ []
far_below_growing = refl

far_below_falling : map (λ r. beyond (negsuc 2) r rest) relations ≡ No ∷ Yes ∷ No ∷ No ∷ Yes ∷ Yes ∷ []
far_below_falling = refl

-- 3 * x + a + 5 with 2 * b over 4 for x: 3 * (2 * b) + 4 * (a + 5)
form_at_a_place : form_at 0 (record { terms = multiple_of (pos 2) 2 ∷ []; constant = pos 0 }) 4 (record { terms = multiple_of (pos 3) 0 ∷ multiple_of (pos 1) 1 ∷ []; constant = pos 5 })
    ≡ record { terms = multiple_of (pos 6) 2 ∷ multiple_of (pos 4) 1 ∷ []; constant = pos 20 }
unfolding coefficient without combine
form_at_a_place = refl

-- ---- the integers, with the scale 6 and the rest a - 1: 3 * x + a - 1 relation 0 is 6 * x relation -2 * a + 2

abbrev t : Form
t = a_form (pos 1) (negsuc 0)

lower_starts_of_positive : map (λ r. comparison_starts Lower 6 (pos 3) r t) relations
    ≡ (a_form (negsuc 1) (pos 1) ∷ []) ∷ (a_form (negsuc 1) (pos 2) ∷ []) ∷ [] ∷ [] ∷ (a_form (negsuc 1) (pos 2) ∷ []) ∷ (a_form (negsuc 1) (pos 1) ∷ []) ∷ []
unfolding scale plus
lower_starts_of_positive = refl

-- -3 * x + a - 1 relation 0 is 6 * x mirrored relation 2 * a - 2
lower_starts_of_negative : map (λ r. comparison_starts Lower 6 (negsuc 2) r t) relations
    ≡ (a_form (pos 2) (negsuc 2) ∷ []) ∷ (a_form (pos 2) (negsuc 1) ∷ []) ∷ (a_form (pos 2) (negsuc 1) ∷ []) ∷ (a_form (pos 2) (negsuc 2) ∷ []) ∷ [] ∷ [] ∷ []
unfolding scale plus
lower_starts_of_negative = refl

upper_starts_of_positive : map (λ r. comparison_starts Upper 6 (pos 3) r t) relations
    ≡ (a_form (negsuc 1) (pos 3) ∷ []) ∷ (a_form (negsuc 1) (pos 2) ∷ []) ∷ (a_form (negsuc 1) (pos 2) ∷ []) ∷ (a_form (negsuc 1) (pos 3) ∷ []) ∷ [] ∷ [] ∷ []
unfolding scale plus
upper_starts_of_positive = refl

upper_starts_of_negative : map (λ r. comparison_starts Upper 6 (negsuc 2) r t) relations
    ≡ (a_form (pos 2) (negsuc 0) ∷ []) ∷ (a_form (pos 2) (negsuc 1) ∷ []) ∷ [] ∷ [] ∷ (a_form (pos 2) (negsuc 1) ∷ []) ∷ (a_form (pos 2) (negsuc 0) ∷ []) ∷ []
unfolding scale plus
upper_starts_of_negative = refl

-- 2 * x > a, -3 * x <= b, 4 divides 3 * x + a, and a <> 0 without x
abbrev mixed : List Atom
mixed = Compare Above (record { terms = multiple_of (pos 2) 0 ∷ multiple_of (negsuc 0) 1 ∷ []; constant = pos 0 })
    ∷ Compare AtMost (record { terms = multiple_of (negsuc 2) 0 ∷ multiple_of (negsuc 0) 2 ∷ []; constant = pos 0 })
    ∷ Congruent false 4 (record { terms = multiple_of (pos 3) 0 ∷ multiple_of (pos 1) 1 ∷ []; constant = pos 0 })
    ∷ Compare Differs (named 1) ∷ []

-- the scale is lcm(2, 3, 3) = 6, the span lcm(6, 4 * (6/3)) = 24: 24/6 residue classes, and 24 points for each of two starts
scale_and_span : (scale_of 0 mixed ≡ 6) × (own_span 0 mixed ≡ 24) × (integer_count_of Lower 0 mixed ≡ 52)
unfolding lcm_of gcd_of euclid coefficient without scale plus
scale_and_span = (refl, refl, refl)

-- 3 * x + a divided by 4, at b over 2: 3 * b + 2 * a divided by 8; in the class of 5: 15 + a divided by 4
congruence_at_places : (integer_atom 0 (Exact (named 2) 2) (Congruent true 4 (record { terms = multiple_of (pos 3) 0 ∷ multiple_of (pos 1) 1 ∷ []; constant = pos 0 }))
    ≡ One (Congruent true 8 (record { terms = multiple_of (pos 3) 2 ∷ multiple_of (pos 2) 1 ∷ []; constant = pos 0 })))
    × (integer_atom 0 (Periodic (pos 5) (negsuc 3)) (Congruent false 4 (record { terms = multiple_of (pos 3) 0 ∷ multiple_of (pos 1) 1 ∷ []; constant = pos 0 }))
    ≡ One (Congruent false 4 (a_form (pos 1) (pos 15))))
unfolding coefficient without combine plus
congruence_at_places = (refl, refl)

-- downwards x <= a is true and x > a false, upwards the other way
comparisons_far_out : (integer_atom 0 (Periodic (pos 1) (negsuc 0)) (Compare AtMost (difference 0 1)) ≡ Yes) × (integer_atom 0 (Periodic (pos 1) (pos 1)) (Compare AtMost (difference 0 1)) ≡ No)
    × (integer_atom 0 (Periodic (pos 1) (pos 1)) (Compare Above (difference 0 1)) ≡ Yes) × (integer_atom 0 (Periodic (pos 1) (pos 1)) (Compare Above (named 1)) ≡ One (Compare Above (named 1)))
unfolding coefficient
comparisons_far_out = (refl, refl, refl, refl)

-- ---- one step, with atoms as they are: x > a and x < b at minus infinity is false and is dropped, just above a it is a - a >= 0 and a - b < 0

step_for_an_interval : step Fields (λ a. One a) Lower 0 open_interval
    ≡ record { place = AboveBy (named 1) 1; tree = And (both (One (Compare AtLeast (difference 1 1))) (One (Compare Below (difference 1 2)))) } ∷ []
unfolding coefficient without scale combine form_over content_of gcd_of euclid
step_for_an_interval = refl

-- x <= a over the integers: in the one class downwards it is true, and there is no start
step_downwards : step Integers (λ a. One a) Lower 0 (One (Compare AtMost (difference 0 1))) ≡ record { place = Periodic (pos 1) (negsuc 0); tree = Yes } ∷ []
unfolding lcm_of gcd_of euclid coefficient without scale plus combine
step_downwards = refl

-- ---- samples over the integers: y = 3 and 2 * x <= y, where y is found to be 3

abbrev three_and_twice : Tree
three_and_twice = And (both (One (Compare Equals (record { terms = multiple_of (pos 1) 1 ∷ []; constant = negsuc 2 })))
    (One (Compare AtMost (record { terms = multiple_of (pos 2) 0 ∷ multiple_of (negsuc 0) 1 ∷ []; constant = pos 0 }))))

abbrev at_three : Point ℕ
at_three = record { at = λ name. pos 3; below = 1 }

-- n * x + m
abbrev x_form : ℤ → ℤ → Form
x_form n m = record { terms = multiple_of n 0 ∷ []; constant = m }

-- with 3 for y, and atoms as they are: 0 * x + 0 = 0 and 2 * x - 3 <= 0
three_put_in : tree_with (λ a. One a) 0 at_three three_and_twice ≡ And (both (One (Compare Equals (x_form (pos 0) (pos 0)))) (One (Compare AtMost (x_form (pos 2) (negsuc 2)))))
unfolding form_with coefficient without value
three_put_in = refl

minus_one_divides : (a : ℤ) → Divides (negsuc 0) a
minus_one_divides a = record { quotient = neg_ℤ a; exact = omega (arith, ints) }

-- 2 * x - 3 <= 0 is x - 1 <= 0 in normal form: far below in the class of 1 the first number below 1 is 0
first_below_one : IsIntegerSample 0 (Periodic (pos 1) (negsuc 0)) (One (Compare AtMost (x_form (pos 1) (negsuc 0)))) at_three (pos 0)
unfolding coefficient value move
first_below_one = inr (inl (λ (e : pos 1 ≡ pos 0). omega (arith, ints)), (minus_one_divides _, omega (arith, ints)), λ w h. let l = h.1 in omega (arith, ints, l))

-- as it was, below 3/2, it would be 1
first_below_three_halves : IsIntegerSample 0 (Periodic (pos 1) (negsuc 0)) (One (Compare AtMost (x_form (pos 2) (negsuc 2)))) at_three (pos 1)
unfolding coefficient value move
first_below_three_halves = inr (inl (λ (e : pos 2 ≡ pos 0). omega (arith, ints)), (minus_one_divides _, omega (arith, ints)), λ w h. let l = h.1 in omega (arith, ints, l))

-- ---- leaving atoms as they are is a normal form that the theorems allow

as_it_is : (c : Context) → IsNormaliser c (λ a. One a)
as_it_is c = record { atomic = λ a i. tt; in_context = λ a i. i; equivalent = λ a i p o. (λ t. t, λ t. t); names = λ a y i t. t }

periods_as_they_are : KeepsPeriods Integers (λ a. One a)
periods_as_they_are a x q i h = h
