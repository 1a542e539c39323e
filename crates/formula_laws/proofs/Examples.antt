-- Worked examples of the definitions, by hand. Each side is computed. The atoms of the formulas are numbers, and the names too.
use Rattle.std.proofs.Common.{◌≡◌, ℕ, ◌+◌, true, false, List, [], ◌∷◌, refl, nat_eq}
use Rattle.std.proofs.Math.IntN.{ℤ, pos, negsuc}
use Rattle.logic_meaning.specs.Form.{Form, Term, value, coefficient, combine}
use Rattle.logic_meaning.specs.Sorted.{gathered}
use Rattle.logic_meaning.specs.Formula.{Formula, Yes, No, One, Not, And, Or, Impl, Repl, Equiv, Ex, All, none, also}
use Rattle.logic_meaning.specs.Shape.{IsPrenex, blocks_from, fewest_blocks, block_of, matrix_of}
use Rattle.logic_meaning.specs.Plain.{leading}
use Rattle.logic_meaning.specs.declared.quantifier.Quantifier.TheVariants.{Exists, ForAll}
use Rattle.logic_meaning.specs.NegationNormal.{both, normal_form, normal_form_of_not}
use Rattle.logic_meaning.specs.Fold.{folded}
use Rattle.logic_meaning.specs.Sizes.{nodes, height, distinct_count, free_names}
use Rattle.logic_meaning.specs.Atom.{Compare, Congruent, Below, AtLeast, Says}
use Rattle.formula_laws.specs.TheoryAtoms.{opposite}
use Rattle.logic_meaning.specs.Tree.{tree_names}

abbrev F : Type 0
F = Formula ℕ ℕ

-- ---- forms: 2*y + 3*x - 2*y + x + 5, with x = 0 and y = 1

abbrev term : ℤ → ℕ → Term
term a x = record { times = a; name = x }

abbrev form : List Term → ℤ → Form
form ts a = record { terms = ts; constant = a }

abbrev unsorted : Form
unsorted = form (term (pos 2) 1 ∷ term (pos 3) 0 ∷ term (negsuc 1) 1 ∷ term (pos 1) 0 ∷ []) (pos 5)

-- y cancels, and x is added up
it_is_gathered : gathered unsorted ≡ form (term (pos 4) 0 ∷ []) (pos 5)
unfolding gathered
it_is_gathered = refl

in_the_order_of_names : gathered (form (term (pos 1) 2 ∷ term (pos 1) 0 ∷ term (negsuc 0) 1 ∷ []) (pos 0)) ≡ form (term (pos 1) 0 ∷ term (negsuc 0) 1 ∷ term (pos 1) 2 ∷ []) (pos 0)
unfolding gathered
in_the_order_of_names = refl

its_coefficients : (coefficient 0 unsorted ≡ pos 4) × (coefficient 1 unsorted ≡ pos 0) × (coefficient 7 unsorted ≡ pos 0)
unfolding coefficient
its_coefficients = (refl, refl, refl)

-- x = 1/2 and y = 3/2: the value 7, times the denominator
its_value : value unsorted (record { at = λ x. pos (x + x + 1); below = 2 }) ≡ pos 14
unfolding value
its_value = refl

-- 2 * (x + 1) - 3 * (x - y), sorted
its_combination : gathered (combine (pos 2) (form (term (pos 1) 0 ∷ []) (pos 1)) (negsuc 2) (form (term (pos 1) 0 ∷ term (negsuc 0) 1 ∷ []) (pos 0))) ≡ form (term (negsuc 0) 0 ∷ term (pos 3) 1 ∷ []) (pos 2)
unfolding gathered combine
its_combination = refl

its_names : tree_names (And (both (One (Compare Below unsorted)) (Ex 2 (One (Congruent true 2 (form (term (pos 1) 2 ∷ term (pos 1) 1 ∷ []) (pos 0))))))) ≡ 0 ∷ 1 ∷ []
unfolding gathered
its_names = refl

-- ---- atoms

its_opposite : (opposite (Compare Below unsorted) ≡ Compare AtLeast unsorted) × (opposite (Congruent true 3 unsorted) ≡ Congruent false 3 unsorted)
its_opposite = (refl, refl)

-- 4 is congruent to 0 modulo 2
four_is_even : Says (Congruent true 2 (form [] (pos 4))) (record { at = λ x. pos 0; below = 1 })
unfolding value
four_is_even = (pos 2, refl)

-- ---- prenex form, blocks, leading block

abbrev a : F
a = One 0

abbrev b : F
b = One 1

prenex : IsPrenex (Ex 0 (All 1 (Not a))) × IsPrenex a
prenex = (tt, tt)

not_prenex : ¬ (IsPrenex (And (both (Ex 0 a) b))) × ¬ (IsPrenex (Ex 0 (Not (All 1 a))))
not_prenex = (λ h. h.0, λ h. h)

-- begun with ex, begun with all
blocks_of_an_atom : (blocks_from a Exists ≡ 0) × (blocks_from a ForAll ≡ 0)
blocks_of_an_atom = (refl, refl)

blocks_of_one : (blocks_from (Ex 0 a) Exists ≡ 1) × (blocks_from (Ex 0 a) ForAll ≡ 2) × (blocks_from (All 0 a) ForAll ≡ 1) × (blocks_from (All 0 a) Exists ≡ 2)
blocks_of_one = (refl, refl, refl, refl)

blocks_of_equal_ones : (blocks_from (Ex 0 (Ex 1 a)) Exists ≡ 1) × (blocks_from (Ex 0 (Ex 1 a)) ForAll ≡ 2)
blocks_of_equal_ones = (refl, refl)

blocks_of_two : (blocks_from (Ex 0 (All 1 a)) Exists ≡ 2) × (blocks_from (Ex 0 (All 1 a)) ForAll ≡ 3) × (blocks_from (All 0 (Ex 1 a)) Exists ≡ 3) × (fewest_blocks (All 0 (Ex 1 a)) ≡ 2)
blocks_of_two = (refl, refl, refl, refl)

-- ex a and all b: two in either order
blocks_side_by_side : (blocks_from (And (both (Ex 0 a) (All 1 b))) Exists ≡ 2) × (blocks_from (And (both (Ex 0 a) (All 1 b))) ForAll ≡ 2) × (fewest_blocks (Or (both (Ex 0 a) (Ex 1 b))) ≡ 1)
blocks_side_by_side = (refl, refl, refl)

blocks_below : (fewest_blocks (Ex 0 (And (both (All 1 a) (Ex 2 b)))) ≡ 2) × (fewest_blocks (All 0 (Ex 1 (All 2 a))) ≡ 3) × (blocks_from (All 0 (Ex 1 (All 2 a))) Exists ≡ 4)
blocks_below = (refl, refl, refl)

leading_blocks : (block_of nat_eq (Ex 0 (Ex 1 a)) Exists [] ≡ 0 ∷ 1 ∷ []) × (matrix_of nat_eq (Ex 0 (Ex 1 a)) Exists [] ≡ a) × (block_of nat_eq (All 0 (Ex 1 a)) ForAll [] ≡ 0 ∷ []) × (matrix_of nat_eq (All 0 (Ex 1 a)) ForAll [] ≡ Ex 1 a)
leading_blocks = (refl, refl, refl, refl)

-- a chain stops before a name that stands in it
names_stand_once : (block_of nat_eq (Ex 0 (Ex 1 (Ex 0 a))) Exists [] ≡ 0 ∷ 1 ∷ []) × (matrix_of nat_eq (Ex 0 (Ex 1 (Ex 0 a))) Exists [] ≡ Ex 0 a) × (matrix_of nat_eq (Ex 0 (Ex 0 a)) Exists [] ≡ Ex 0 a)
names_stand_once = (refl, refl, refl)

leading_quantifiers : (leading (All 0 (Ex 1 a)) ≡ ForAll) × (leading (Ex 0 a) ≡ Exists) × (leading a ≡ Exists) × (block_of nat_eq a Exists [] ≡ []) × (block_of nat_eq (Ex 0 a) ForAll [] ≡ [])
leading_quantifiers = (refl, refl, refl, refl, refl)

-- ---- negation normal form, with n + 10 as the opposite of the atom n

abbrev far : ℕ → ℕ
far n = n + 10

not_a_implication : normal_form far (Not (Impl a b)) ≡ And (both a (One 11))
not_a_implication = refl

a_replication : (normal_form far (Repl a b) ≡ Or (both a (One 11))) × (normal_form_of_not far (Repl a b) ≡ And (both (One 10) b))
a_replication = (refl, refl)

an_equivalence : normal_form far (Equiv a b) ≡ Or (both (And (both a b)) (And (both (One 10) (One 11))))
an_equivalence = refl

not_an_equivalence : normal_form_of_not far (Equiv a b) ≡ Or (both (And (both a (One 11))) (And (both (One 10) b)))
not_an_equivalence = refl

not_a_quantifier : normal_form far (Not (Ex 2 (All 3 (Not (Not a))))) ≡ All 2 (Ex 3 (One 10))
not_a_quantifier = refl

not_a_list : normal_form_of_not far (And (also a (also Yes (also (Not b) none)))) ≡ Or (also (One 10) (also No (also b none)))
not_a_list = refl

-- ---- folding

inner_lists : folded (And (also Yes (also a (also (And (both b (One 2))) (also Yes none))))) ≡ And (also a (also b (also (One 2) none)))
inner_lists = refl

one_false : (folded (And (both a No)) ≡ No) × (folded (Or (also No (also a none))) ≡ a) × (folded (And (both (Or (also No none)) b)) ≡ No)
one_false = (refl, refl, refl)

abbrev empty_and : F
empty_and = And none

abbrev empty_or : F
empty_or = Or none

no_member : (folded empty_and ≡ Yes) × (folded empty_or ≡ No) × (folded (Or (both empty_and b)) ≡ Yes)
no_member = (refl, refl, refl)

-- an or in an and stays; an and that is left of an or gives its members
others_stay : (folded (And (both (Or (both a b)) (One 2))) ≡ And (both (Or (both a b)) (One 2))) × (folded (And (both (Or (also (And (both a b)) none)) (One 2))) ≡ And (also a (also b (also (One 2) none))))
others_stay = (refl, refl)

-- ---- sizes and names

the_sizes : (nodes (Not (And (both a b))) ≡ 4) × (height (Not (And (both a b))) ≡ 3) × (nodes empty_and ≡ 1) × (height (Impl a (Ex 0 b)) ≡ 3) × (nodes (Impl a (Ex 0 b)) ≡ 4)
the_sizes = (refl, refl, refl, refl, refl)

-- a and not a and (a or not a): 8 nodes, 4 different subtrees
shared_subtrees : (nodes (And (also a (also (Not a) (also (Or (both a (Not a))) none)))) ≡ 8) × (distinct_count nat_eq nat_eq (And (also a (also (Not a) (also (Or (both a (Not a))) none)))) ≡ 4)
shared_subtrees = (refl, refl)

-- the atom n has the name n alone
free_ones : free_names (λ n. n ∷ []) nat_eq (And (also (One 3) (also (Ex 3 (And (both (One 3) (One 4)))) (also (One 5) (also (One 3) none))))) ≡ 3 ∷ 4 ∷ 5 ∷ []
free_ones = refl
