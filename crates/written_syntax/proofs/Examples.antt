-- Worked examples of the definitions. Each side is computed.
use Rattle.std.proofs.Common.{◌≡◌, [], ◌∷◌, refl, true, false, codes, bytes_eq, if◌then◌else◌, lit≤}
use Rattle.std.specs.Prelude.{pos, neg_ℤ, Ok, Err}
use Rattle.exact_numbers.specs.Limit.{checked}
use Rattle.exact_numbers.specs.Divides.{gcd_of, lcm_of, euclid}
use Rattle.exact_numbers.specs.Frac.{product_step, sum_step, power_steps, inverted}
use Rattle.logic_meaning.specs.Formula.{Yes, No, One, Not, And, Impl, Repl, Ex, All}
use Rattle.language_meaning.specs.Names.{is_word, IsVariable}
use Rattle.language_meaning.specs.declared.tree.Literal.TheVariants.{Fits, Past}
use Rattle.language_meaning.specs.declared.tree.Relation.TheVariants.{Equal, AtLeast}
use Rattle.written_syntax.specs.declared.value.EvalError.TheVariants.{ZeroDivisor, Overflow}
use Rattle.language_meaning.specs.Trees.{TermTree, Number, Named, Sum, Product, Quotient, Power, Negative, terms_of, Compare, Cong, Ncong, FormulaTree, formulas_of}
use Rattle.language_meaning.specs.Value.{NamedPoint, value}
use Rattle.written_syntax.specs.Rule.{calculated, calculated_truth}
use Rattle.written_syntax.specs.Valued.{prefix_of}

-- x is 1/2 and each other name 0
abbrev half : NamedPoint
half = record { at = λ name. if bytes_eq name (codes "x") then pos 1 else pos 0; below = 2 }

-- 2*x + 1
abbrev sum : TermTree
sum = Sum (terms_of (Product (terms_of (Number (Fits (pos 2)) ∷ Named (codes "x") ∷ [])) ∷ Number (Fits (pos 1)) ∷ []))

-- 2*x + 1 has the value 4/2 there, and is calculated to 2
value_of_the_sum : value sum half ≡ record { numerator = pos 4; denominator = pos 2 }
value_of_the_sum = refl

the_sum_calculated : calculated sum half ≡ Ok (record { numerator = pos 2; denominator = pos 1 })
unfolding product_step sum_step checked gcd_of lcm_of euclid
the_sum_calculated = refl

-- 2*x + 1 >= 2 and not x = 1
abbrev test : FormulaTree
test = And (formulas_of (One (Compare AtLeast sum (Number (Fits (pos 2)))) ∷ Not (One (Compare Equal (Named (codes "x")) (Number (Fits (pos 1))))) ∷ []))

test_is_true : calculated_truth test half ≡ Ok true
unfolding product_step sum_step checked gcd_of lcm_of euclid
test_is_true = refl

-- false and a number past the limit: each comparison is calculated
past_the_limit : calculated_truth (And (formulas_of (No ∷ One (Compare Equal (Number Past) (Number (Fits (pos 1)))) ∷ []))) half ≡ Err Overflow
past_the_limit = refl

-- - x is -1/2
opposite : value (Negative (Named (codes "x"))) half ≡ record { numerator = neg_ℤ (pos 1); denominator = pos 2 }
opposite = refl

-- 1 / x is 2, and stops where the divisor is 0
abbrev one_over : TermTree → TermTree
one_over t = Quotient (Number (Fits (pos 1))) t

reciprocal : calculated (one_over (Named (codes "x"))) half ≡ Ok (record { numerator = pos 2; denominator = pos 1 })
unfolding product_step inverted checked gcd_of euclid
reciprocal = refl

over_zero : calculated (one_over (Named (codes "y"))) half ≡ Err ZeroDivisor
unfolding gcd_of euclid
over_zero = refl

-- what stands before a divisor 0 stops first
past_over_zero : calculated (Quotient (Number Past) (Named (codes "y"))) half ≡ Err Overflow
past_over_zero = refl

-- x^3 is 1/8, and y^0 is 1 where y is 0
cube : calculated (Power (Named (codes "x")) (Fits (pos 3))) half ≡ Ok (record { numerator = pos 1; denominator = pos 8 })
unfolding power_steps product_step checked gcd_of euclid
cube = refl

power_zero : calculated (Power (Named (codes "y")) (Fits (pos 0))) half ≡ Ok (record { numerator = pos 1; denominator = pos 1 })
unfolding power_steps gcd_of euclid
power_zero = refl

-- 7 is 1 modulo 3, and so modulo -3; 4 is not 1 modulo 2; 1/2 is not 0 modulo 1
abbrev congruent : TermTree → TermTree → FormulaTree
congruent s m = One (Cong s (Number (Fits (pos 1))) m)

seven : calculated_truth (congruent (Number (Fits (pos 7))) (Number (Fits (pos 3)))) half ≡ Ok true
unfolding sum_step checked gcd_of lcm_of euclid
seven = refl

minus_three : calculated_truth (congruent (Number (Fits (pos 7))) (Negative (Number (Fits (pos 3))))) half ≡ Ok true
unfolding sum_step checked gcd_of lcm_of euclid
minus_three = refl

four : calculated_truth (congruent (Number (Fits (pos 4))) (Number (Fits (pos 2)))) half ≡ Ok false
unfolding sum_step checked gcd_of lcm_of euclid
four = refl

half_is_no_multiple : calculated_truth (One (Ncong (Named (codes "x")) (Number (Fits (pos 0))) (Number (Fits (pos 1))))) half ≡ Ok true
unfolding sum_step checked gcd_of lcm_of euclid
half_is_no_multiple = refl

-- false repl true is false; false impl 1/y = 1 is calculated whole
turned_round : calculated_truth (Repl No Yes) half ≡ Ok false
turned_round = refl

false_premise : calculated_truth (Impl No (One (Compare Equal (one_over (Named (codes "y"))) (Number (Fits (pos 1)))))) half ≡ Err ZeroDivisor
unfolding gcd_of euclid
false_premise = refl

-- ex(x,all(y,x = 0)) begins with two quantifiers
two_quantifiers : prefix_of (Ex (codes "x") (All (codes "y") (One (Compare Equal (Named (codes "x")) (Number (Fits (pos 0))))))) ≡ codes "x" ∷ codes "y" ∷ []
two_quantifiers = refl

-- x is a variable, and so is infinity; infinity1 and rlqe are words
pub variable_x : IsVariable (codes "x")
unfolding is_word
variable_x = record { begins = refl; parts = refl; few = lit≤ tt; free = refl }

pub variable_y : IsVariable (codes "y")
unfolding is_word
variable_y = record { begins = refl; parts = refl; few = lit≤ tt; free = refl }

bare_infinity : IsVariable (codes "infinity")
unfolding is_word
bare_infinity = record { begins = refl; parts = refl; few = lit≤ tt; free = refl }

numbered_infinity : is_word (codes "infinity1") ≡ true
unfolding is_word
numbered_infinity = refl

numbered_and_more : is_word (codes "infinity1x") ≡ false
unfolding is_word
numbered_and_more = refl

numbered_epsilon : is_word (codes "epsilon23") ≡ true
unfolding is_word
numbered_epsilon = refl

a_command : is_word (codes "rlqe") ≡ true
unfolding is_word
a_command = refl
