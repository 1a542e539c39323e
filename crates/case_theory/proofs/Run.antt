-- One elimination, step by step: ex(x, ex(z, 2 * x = y and x > 0)) over the integers, where it is assumed that x > 0, which is not
-- used since x is a name of the block, and that y is even. The names x, y and z are 0, 1 and 2.
use Rattle.std.proofs.Common.{◌≡◌, ℕ, true, List, [], ◌∷◌, refl, arith, inl, inr}
use Rattle.std.proofs.Math.IntN.{pos, negsuc}
use Rattle.std.proofs.lemmas.Int.{ints}
use Rattle.exact_numbers.specs.Divides.{content_of, gcd_of, euclid}
use Rattle.logic_meaning.specs.Context.{Integers}
use Rattle.logic_meaning.specs.Formula.{One, And, Ex}
use Rattle.logic_meaning.specs.NegationNormal.{both}
use Rattle.logic_meaning.specs.Form.{Form, coefficient, without, scale, combine}
use Rattle.logic_meaning.specs.Sorted.{gathered}
use Rattle.logic_meaning.specs.Atom.{Atom, Equals, Above, Compare, Congruent}
use Rattle.logic_meaning.specs.Answer.{Exact}
use Rattle.logic_meaning.specs.Tree.{Tree, IsFree}
use Rattle.elimination_theory.specs.FieldsExample.{named, multiple_of}
use Rattle.logic_meaning.specs.Answers.{zero_place}
use Rattle.logic_meaning.specs.Steps.{result_at, Result}
use Rattle.logic_meaning.specs.Reduction.{quotient, residue_form}
use Rattle.logic_meaning.specs.NormalForm.{normal_atom, IsNormal}
use Rattle.logic_meaning.specs.Cases.{Case}
use Rattle.elimination_theory.specs.Theorems.{IsTidy}
use Rattle.case_theory.specs.CaseTree.{without_all, IsCaseTree}
use Rattle.case_theory.specs.Points.{ArePointsFor}
use Rattle.case_theory.specs.Worked.{IsWorked}
use Rattle.case_theory.specs.Children.{AreChildren}
use Rattle.case_theory.specs.Pending.{Pending, ArePending, begun, child, IsRest}
use Rattle.case_theory.proofs.Without.{without_all_lack}
use Rattle.case_theory.proofs.Points.{root_point, zero_point}
use Rattle.case_theory.proofs.Worked.{working_goes_on}
use Rattle.case_theory.proofs.Children.{children_made}
use Rattle.case_theory.proofs.Pending.{pending_begins, pending_goes_on}
use Rattle.case_theory.proofs.Leading.{names_once}
use Rattle.case_theory.proofs.Lists.{taken_out}
use Rattle.case_theory.proofs.Ends.{pending_ends}

-- 2 * x - y
abbrev twice : Form
twice = record { terms = multiple_of (pos 2) 0 ∷ multiple_of (negsuc 0) 1 ∷ []; constant = pos 0 }

abbrev matrix : Tree
matrix = And (both (One (Compare Equals twice)) (One (Compare Above (named 0))))

abbrev formula : Tree
formula = Ex 0 (Ex 2 matrix)

abbrev theory : List Atom
theory = Compare Above (named 0) ∷ Congruent true 2 (named 1) ∷ []

-- y > 0
abbrev positive : Tree
positive = One (Compare Above (named 1))

-- z = 0 and x = y/2, where y > 0
abbrev only_case : Case
only_case = record { guard = positive; answers = record { name = 2; place = zero_place } ∷ record { name = 0; place = Exact (named 1) 2 } ∷ [] }

abbrev ks : List Atom
ks = without_all (0 ∷ 2 ∷ []) theory

even_is_left : ks ≡ Congruent true 2 (named 1) ∷ []
unfolding coefficient
even_is_left = refl

twice_normal : IsNormal Integers (Compare Equals twice)
unfolding content_of gcd_of euclid
twice_normal = record {
  relation = tt;
  oriented = record { sorted = record { rising = ((omega arith, tt), (tt, tt)); nonzero = (λ (e : pos 2 ≡ pos 0). omega (arith, ints), (λ (e : negsuc 0 ≡ pos 0). omega (arith, ints), tt)) }; positive = omega (arith, ints) };
  coprime = refl;
}

above_normal : (x : ℕ) → IsNormal Integers (Compare Above (named x))
unfolding content_of gcd_of euclid
above_normal x = record {
  relation = tt;
  oriented = record { sorted = record { rising = (tt, tt); nonzero = (λ (e : pos 1 ≡ pos 0). omega (arith, ints), tt) }; positive = omega (arith, ints) };
  coprime = refl;
}

matrix_tidy : IsTidy Integers matrix
matrix_tidy = record { is_plain = (tt, (tt, tt)); normal = (twice_normal, (above_normal 0, tt)); two_members = (tt, (tt, tt, (tt, tt, tt))) }

positive_tidy : IsTidy Integers positive
positive_tidy = record { is_plain = tt; normal = above_normal 1; two_members = tt }

-- ---- x at the root y/2

begins : ArePending Integers ks matrix (0 ∷ 2 ∷ []) (begun matrix (0 ∷ 2 ∷ []) ∷ [])
begins = pending_begins Integers ks matrix (0 ∷ 2 ∷ []) matrix_tidy (without_all_lack (0 ∷ 2 ∷ []) theory) (names_once formula)

root : ArePointsFor Integers 0 matrix (Exact (named 1) 2 ∷ [])
unfolding coefficient without scale
root = root_point Integers 0 matrix twice (Exact (named 1) 2) matrix_tidy.is_plain (tt, (tt, tt)) (inl refl) refl

-- y is even and y > 0; under the assumption the second is enough
at_root : IsWorked Integers ks (result_at Integers (normal_atom Integers) 0 (Exact (named 1) 2) matrix) positive
unfolding coefficient without combine content_of gcd_of euclid normal_atom gathered quotient residue_form
at_root = record { equivalent = λ p o t. (λ u. u.1.0, λ u. (t.0, (u, tt))); tidy = positive_tidy; names = λ y u. inr (inl u) }

abbrev first : Result
first = record { place = Exact (named 1) 2; tree = positive }

first_children : AreChildren Integers ks 0 matrix (Exact (named 1) 2 ∷ []) (first ∷ [])
first_children = let m = children_made Integers ks 0 matrix in m.one_child (Exact (named 1) 2) positive [] [] matrix_tidy root.each.0 at_root m.no_point

z_left : IsRest 0 (0 ∷ 2 ∷ []) (2 ∷ [])
z_left = taken_out [] (2 ∷ []) 0 (names_once formula)

abbrev after : Pending
after = child 0 (begun matrix (0 ∷ 2 ∷ [])) (2 ∷ []) first

x_taken : ArePending Integers ks matrix (0 ∷ 2 ∷ []) (after ∷ [])
x_taken = pending_goes_on Integers ks matrix (0 ∷ 2 ∷ []) [] (begun matrix (0 ∷ 2 ∷ [])) [] 0 (2 ∷ []) (Exact (named 1) 2 ∷ []) (first ∷ []) begins (inl refl) z_left root first_children

-- ---- z, which stands nowhere, at 0

z_absent : ¬ (IsFree positive 2)
unfolding coefficient
z_absent n = n refl

zero : ArePointsFor Integers 2 positive (zero_place ∷ [])
zero = zero_point Integers 2 positive tt tt z_absent

abbrev second : Result
second = record { place = zero_place; tree = positive }

second_children : AreChildren Integers ks 2 positive (zero_place ∷ []) (second ∷ [])
second_children = (children_made Integers ks 2 positive).unchanged positive_tidy z_absent

z_taken : ArePending Integers ks matrix (0 ∷ 2 ∷ []) (child 2 after [] second ∷ [])
z_taken = pending_goes_on Integers ks matrix (0 ∷ 2 ∷ []) [] after [] 2 [] (zero_place ∷ []) (second ∷ []) x_taken (inl refl) (taken_out [] [] 2 ((λ m. m), tt)) zero second_children

-- ---- the case

run_ends : IsCaseTree Integers theory formula matrix (only_case ∷ [])
run_ends = pending_ends Integers theory formula matrix (child 2 after [] second ∷ []) (twice_normal, (above_normal 0, tt)) ((working_goes_on Integers ks).itself matrix matrix_tidy) z_taken (refl, tt)
