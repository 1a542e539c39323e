-- Worked examples, by hand. The names x, y and z are 0, 1 and 2.
use Rattle.std.proofs.Common.{◌≡◌, ℕ, true, false, None, Some, [], ◌∷◌, refl, arith, inl}
use Rattle.std.proofs.lemmas.Int.{ints}
use Rattle.std.proofs.Math.IntN.{ℤ, pos, negsuc}
use Rattle.exact_numbers.specs.Divides.{content_of, gcd_of, euclid}
use Rattle.logic_meaning.specs.Context.{Fields, Integers}
use Rattle.logic_meaning.specs.Formula.{Yes, One, And, Or, Ex, All, none, also}
use Rattle.logic_meaning.specs.NegationNormal.{both}
use Rattle.logic_meaning.specs.Form.{Form, coefficient, without, scale, combine}
use Rattle.logic_meaning.specs.Sorted.{gathered}
use Rattle.logic_meaning.specs.Atom.{Equals, Differs, Below, AtMost, Above, AtLeast, Compare, Congruent}
use Rattle.logic_meaning.specs.Answer.{Answer, Exact, AboveBy, MinusInfinity}
use Rattle.logic_meaning.specs.Tree.{Tree, Trees}
use Rattle.logic_meaning.specs.Measured.{Nodes}
use Rattle.elimination_theory.specs.FieldsExample.{named, difference, multiple_of}
use Rattle.logic_meaning.specs.FieldsPoints.{form_over}
use Rattle.logic_meaning.specs.Answers.{zero_place, answers_of}
use Rattle.logic_meaning.specs.Reduction.{quotient, residue_form}
use Rattle.logic_meaning.specs.NormalForm.{normal_atom, IsNormal}
use Rattle.logic_meaning.specs.Reference.{reference}
use Rattle.logic_meaning.specs.Cases.{case_names, case_matrix, reference_cases}
use Rattle.elimination_theory.specs.Theorems.{IsTidy}
use Rattle.case_theory.specs.Worked.{IsNeverUnder}
use Rattle.case_theory.specs.Children.{AreChildren}
use Rattle.case_theory.proofs.Points.{root_point}
use Rattle.case_theory.proofs.Children.{children_made}
use Rattle.elimination_theory.specs.AnswersExample.{matrix, x_is_y, y_is_far}
use Rattle.elimination_theory.proofs.AnswersExample.{period_of_the_branch}
use Rattle.case_theory.specs.PutThrough.{Fit, put_through}
use Rattle.case_theory.proofs.Fit.{answers_fit}
use Rattle.case_theory.proofs.Fallback.{lead_under}
use Rattle.case_theory.specs.CaseTree.{without_all}
use Rattle.logic_meaning.specs.Roots.{IsRoot}
use Rattle.case_theory.specs.Fallback.{stop_of}
use Rattle.logic_meaning.specs.Direct.{first_equation, direct_answer}

-- n * x + m * y
abbrev weighted : ℤ → ℕ → ℤ → ℕ → Form
weighted n x m y = record { terms = multiple_of n x ∷ multiple_of m y ∷ []; constant = pos 0 }

-- n * x + k
abbrev one_name : ℤ → ℕ → ℤ → Form
one_name n x k = record { terms = multiple_of n x ∷ []; constant = k }

-- x at the form over the denominator
abbrev at : ℕ → Form → ℕ → Answer
at x e d = record { name = x; place = Exact e d }

-- ---- roots

-- 4 * x - 2 * y + 2 = 0
abbrev four : Form
four = record { terms = multiple_of (pos 4) 0 ∷ multiple_of (negsuc 1) 1 ∷ []; constant = pos 2 }

-- over the fields in lowest terms, over the integers not divided
root_in_fields : IsRoot Fields 0 four (Exact (one_name (pos 1) 1 (negsuc 0)) 2)
unfolding coefficient without scale form_over content_of gcd_of euclid
root_in_fields = refl

root_over_integers : IsRoot Integers 0 four (Exact (one_name (pos 2) 1 (negsuc 1)) 4)
unfolding coefficient without scale
root_over_integers = refl

-- -3 * x + y = 0
root_of_negative : IsRoot Integers 0 (weighted (negsuc 2) 0 (pos 1) 1) (Exact (named 1) 3)
unfolding coefficient without
root_of_negative = refl

-- ---- answers put in

-- 2 * x = y and x > z with y/2 for x: over the fields y - 2 * z > 0
half_in_fields : put_through Fields (at 0 (named 1) 2 ∷ []) (And (both (One (Compare Equals (weighted (pos 2) 0 (negsuc 0) 1))) (One (Compare Above (difference 0 2))))) ≡ One (Compare Above (weighted (pos 1) 1 (negsuc 1) 2))
unfolding coefficient without combine content_of gcd_of euclid normal_atom gathered quotient
half_in_fields = refl

-- and over the integers y is even besides
half_over_integers : put_through Integers (at 0 (named 1) 2 ∷ []) (And (both (One (Compare Equals (weighted (pos 2) 0 (negsuc 0) 1))) (One (Compare Above (difference 0 2)))))
    ≡ And (both (One (Congruent true 2 (named 1))) (One (Compare Above (weighted (pos 1) 1 (negsuc 1) 2))))
unfolding coefficient without combine content_of gcd_of euclid normal_atom gathered quotient residue_form
half_over_integers = refl

-- modulo 2: x + y with y for x, where the name cancels
cancelled : put_through Integers (at 0 (named 1) 1 ∷ []) (One (Congruent true 2 (weighted (pos 1) 0 (pos 1) 1))) ≡ Yes
unfolding coefficient without combine content_of gcd_of euclid normal_atom gathered quotient residue_form
cancelled = refl

-- modulo 2 a form is not congruent to 0 where it and 1 are: x + y + z with y for x leaves z + 1
odd : put_through Integers (at 0 (named 1) 1 ∷ []) (One (Congruent false 2 (record { terms = multiple_of (pos 1) 0 ∷ multiple_of (pos 1) 1 ∷ multiple_of (pos 1) 2 ∷ []; constant = pos 0 })))
    ≡ One (Congruent true 2 (one_name (pos 1) 2 (pos 1)))
unfolding coefficient without combine content_of gcd_of euclid normal_atom gathered quotient residue_form
odd = refl

-- a name that stands nowhere is put at 0, and the formula stays
nowhere : put_through Fields (record { name = 0; place = zero_place } ∷ []) (One (Compare Above (named 1))) ≡ One (Compare Above (named 1))
unfolding coefficient
nowhere = refl

-- the last answer goes in first: y < x and x < z with y + epsilon for x, then minus infinity for y
two_answers : put_through Fields (record { name = 1; place = MinusInfinity } ∷ record { name = 0; place = AboveBy (named 1) 1 } ∷ []) (And (both (One (Compare Above (difference 0 1))) (One (Compare Below (difference 0 2))))) ≡ Yes
unfolding coefficient without combine content_of gcd_of euclid normal_atom gathered quotient
two_answers = refl

-- x > y and x <= 4 and 5 divides x, or 2 divides x and y > 3
abbrev five_or_two : Tree
five_or_two =
    Or (both
    (And (also (One (Compare Above (difference 0 1))) (also (One (Compare AtMost (one_name (pos 1) 0 (negsuc 3)))) (also (One (Congruent true 5 (named 0))) none))))
    (And (both (One (Congruent true 2 (named 0))) (One (Compare Above (one_name (pos 1) 1 (negsuc 2)))))))

-- With 4 for y nothing tells that x > 4 and x <= 4 exclude each other, and the congruence by 5 stays: a branch that is simplified to
-- `2 divides x` has the period 2, which is none of this formula.
period_of_branch_alone : put_through Integers (at 1 (record { terms = []; constant = pos 4 }) 1 ∷ []) five_or_two
    ≡ Or (both
    (And (also (One (Compare Above (one_name (pos 1) 0 (negsuc 3)))) (also (One (Compare AtMost (one_name (pos 1) 0 (negsuc 3)))) (also (One (Congruent true 5 (named 0))) none))))
    (One (Congruent true 2 (named 0))))
unfolding coefficient without combine content_of gcd_of euclid normal_atom gathered quotient residue_form
period_of_branch_alone = refl

-- ---- assumptions

-- of x > 0, y > 0 and x + y <> 0 the second is left under a block with x
block_name_dropped : without_all (0 ∷ []) (Compare Above (named 0) ∷ Compare Above (named 1) ∷ Compare Differs (weighted (pos 1) 0 (pos 1) 1) ∷ []) ≡ Compare Above (named 1) ∷ []
unfolding coefficient
block_name_dropped = refl

-- a name with the coefficient 0 does not stand in an atom
cancelled_name_kept : without_all (0 ∷ []) (Compare Above (record { terms = multiple_of (pos 1) 0 ∷ multiple_of (negsuc 0) 0 ∷ multiple_of (pos 1) 1 ∷ []; constant = pos 0 }) ∷ [])
    ≡ Compare Above (record { terms = multiple_of (pos 1) 0 ∷ multiple_of (negsuc 0) 0 ∷ multiple_of (pos 1) 1 ∷ []; constant = pos 0 }) ∷ []
unfolding coefficient
cancelled_name_kept = refl

-- ---- the leading block

-- all(x, all(y, x > y)) has the cases of ex(x, ex(y, x <= y))
block_of_all : (case_names (All 0 (All 1 (One (Compare Above (difference 0 1))))) ≡ 0 ∷ 1 ∷ []) × (case_matrix (All 0 (All 1 (One (Compare Above (difference 0 1))))) ≡ One (Compare AtMost (difference 0 1)))
block_of_all = (refl, refl)

-- a name that stands in the block already ends it
block_ends : (case_names (Ex 0 (Ex 1 (Ex 0 (One (Compare Above (difference 0 1)))))) ≡ 0 ∷ 1 ∷ []) × (case_matrix (Ex 0 (Ex 1 (Ex 0 (One (Compare Above (difference 0 1)))))) ≡ Ex 0 (One (Compare Above (difference 0 1))))
block_ends = (refl, refl)

-- ---- direct formulas

-- x > z, 2 * z = 0, 2 * x = y, x = z: the first equation in x is the third member
abbrev members : Trees
members =
    also (One (Compare Above (difference 0 2)))
    (also (One (Compare Equals (one_name (pos 2) 2 (pos 0))))
    (also (One (Compare Equals (weighted (pos 2) 0 (negsuc 0) 1))) (also (One (Compare Equals (difference 0 2))) none)))

third_is_first : first_equation 0 members ≡ Some (weighted (pos 2) 0 (negsuc 0) 1)
unfolding coefficient
third_is_first = refl

no_equation : first_equation 1 (also (One (Compare AtLeast (named 1))) (also (One (Compare Equals (named 0))) none)) ≡ None
unfolding coefficient
no_equation = refl

-- ex(x, x = y and x < z) becomes y < z
direct_becomes : direct_answer 0 (both (One (Compare Equals (difference 0 1))) (One (Compare Below (difference 0 2)))) (Exact (named 1) 1) ≡ One (Compare Below (difference 1 2))
unfolding coefficient without combine content_of gcd_of euclid normal_atom gathered quotient
direct_becomes = refl

-- ---- stops

-- its reference costs 14: both stop with nodes at 13
both_stop : (stop_of (reference_cases Fields 13 (Ex 0 (And (both (One (Compare Equals (difference 0 1))) (One (Compare Below (difference 0 2))))))) ≡ Some Nodes)
    × (stop_of (reference Fields 13 (Ex 0 (And (both (One (Compare Equals (difference 0 1))) (One (Compare Below (difference 0 2))))))) ≡ Some Nodes)
unfolding coefficient without scale combine form_over content_of gcd_of euclid normal_atom gathered quotient
both_stop = (refl, refl)

neither_stops : (stop_of (reference_cases Fields 14 (Ex 0 (And (both (One (Compare Equals (difference 0 1))) (One (Compare Below (difference 0 2))))))) ≡ None)
    × (stop_of (reference Fields 14 (Ex 0 (And (both (One (Compare Equals (difference 0 1))) (One (Compare Below (difference 0 2))))))) ≡ None)
unfolding coefficient without scale combine form_over content_of gcd_of euclid normal_atom gathered quotient
neither_stops = (refl, refl)

-- ---- what is false under assumptions alone

-- x = y and x < 0
abbrev equal_and_negative : Tree
equal_and_negative = And (both (One (Compare Equals (difference 0 1))) (One (Compare Below (named 0))))

equal_and_negative_tidy : IsTidy Fields equal_and_negative
unfolding content_of gcd_of euclid
equal_and_negative_tidy = record {
  is_plain = (tt, (tt, tt));
  normal = (
    record { oriented = record { sorted = record { rising = ((omega arith, tt), (tt, tt)); nonzero = (λ (e : pos 1 ≡ pos 0). omega (arith, ints), (λ (e : negsuc 0 ≡ pos 0). omega (arith, ints), tt)) }; positive = omega (arith, ints) }; coprime = refl },
    (record { oriented = record { sorted = record { rising = (tt, tt); nonzero = (λ (e : pos 1 ≡ pos 0). omega (arith, ints), tt) }; positive = omega (arith, ints) }; coprime = refl }, tt),
  );
  two_members = (tt, (tt, tt, (tt, tt, tt)));
}

-- under y > 0, y < 0 is never true: the point x = y of x = y and x < 0 has no child
never_below : IsNeverUnder Fields (Compare Above (named 1) ∷ []) (One (Compare Below (named 1)))
never_below p o t u = let h = t.0 in omega (arith, ints)

point_without_child : AreChildren Fields (Compare Above (named 1) ∷ []) 0 equal_and_negative (Exact (named 1) 1 ∷ []) []
unfolding coefficient without scale combine form_over content_of gcd_of euclid normal_atom gathered quotient
point_without_child =
    let points = root_point Fields 0 equal_and_negative (difference 0 1) (Exact (named 1) 1) (tt, (tt, tt)) (tt, (tt, tt)) (inl refl) refl in
    let made = children_made Fields (Compare Above (named 1) ∷ []) 0 equal_and_negative in
    made.no_child (Exact (named 1) 1) [] [] equal_and_negative_tidy points.each.0 never_below made.no_point

-- ---- a period of the branch alone

x_is_y_normal : IsNormal Integers (Compare Equals (difference 0 1))
unfolding content_of gcd_of euclid
x_is_y_normal = record {
  relation = tt;
  oriented = record { sorted = record { rising = ((omega arith, tt), (tt, tt)); nonzero = (λ (e : pos 1 ≡ pos 0). omega (arith, ints), (λ (e : negsuc 0 ≡ pos 0). omega (arith, ints), tt)) }; positive = omega (arith, ints) };
  coprime = refl;
}

by_four_normal : IsNormal Integers (Congruent true 4 (record { terms = multiple_of (pos 1) 0 ∷ multiple_of (pos 1) 1 ∷ []; constant = pos 1 }))
unfolding content_of gcd_of euclid
by_four_normal = record {
  above_one = omega arith;
  sorted = record { rising = ((omega arith, tt), (tt, tt)); nonzero = (λ (e : pos 1 ≡ pos 0). omega (arith, ints), (λ (e : pos 1 ≡ pos 0). omega (arith, ints), tt)) };
  reduced = ((omega (arith, ints), omega (arith, ints)), ((omega (arith, ints), omega (arith, ints)), ((omega (arith, ints), omega (arith, ints)), tt)));
  coprime = refl;
  small = omega (arith, ints);
  told = λ e. refl;
}

by_three_normal : IsNormal Integers (Congruent true 3 (named 1))
unfolding content_of gcd_of euclid
by_three_normal = record {
  above_one = omega arith;
  sorted = record { rising = (tt, tt); nonzero = (λ (e : pos 1 ≡ pos 0). omega (arith, ints), tt) };
  reduced = ((omega (arith, ints), omega (arith, ints)), ((omega (arith, ints), omega (arith, ints)), tt));
  coprime = refl;
  small = omega (arith, ints);
  told = λ e. refl;
}

-- x = y and (4 divides x + y + 1 or 3 divides y): the answers y = 3 - 3 * infinity and x = y fit it, though 3 is no period of the
-- congruence by 4
branch_period_fits : Fit Integers [] (answers_of (y_is_far ∷ x_is_y ∷ [])) matrix
branch_period_fits =
    answers_fit Integers [] (y_is_far ∷ x_is_y ∷ []) matrix Yes
    (record { is_plain = (tt, ((tt, (tt, tt)), tt)); normal = (x_is_y_normal, ((by_four_normal, (by_three_normal, tt)), tt)); two_members = (tt, (tt, tt, (tt, (tt, (tt, tt, (tt, tt, tt))), tt))) })
    (lead_under Integers [] (y_is_far ∷ x_is_y ∷ []) matrix matrix Yes (λ p o. (λ t. t, λ t. t)) (tt, (tt, tt)) period_of_the_branch)
