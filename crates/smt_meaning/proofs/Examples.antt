-- Meanings worked by hand. Each side is computed.
use Rattle.std.proofs.Common.{◌≡◌, ℕ, List, [], ◌∷◌, refl, codes, true, false, Some, None}
use Rattle.std.specs.Prelude.{pos, is_some}
use Rattle.logic_meaning.specs.Context.{Context, Fields, Integers}
use Rattle.logic_meaning.specs.Formula as plain
use Rattle.logic_meaning.specs.declared.quantifier.Quantifier.TheVariants.{Exists, ForAll}
use Rattle.language_meaning.specs.declared.tree.Literal.{Literal}
use Rattle.language_meaning.specs.declared.tree.Literal.TheVariants.{Fits}
use Rattle.language_meaning.specs.declared.tree.Relation.TheVariants as relation
use Rattle.language_meaning.specs.Trees as language
use Rattle.smt_language.specs.declared.names.SortedName.{SortedName}
use Rattle.smt_language.specs.declared.expression.Operator.TheVariants as operator
use Rattle.smt_language.specs.Trees.{ExpressionTree, LocalTree, True, False, Numeral, Decimal, Named, Apply, Divisible, Quantified, Let}
use Rattle.smt_tokens.specs.TreeLists.{expressions_of, locals_of}
use Rattle.smt_language.specs.Levels.{level}
use Rattle.smt_language.specs.Operators.{Formula}
use Rattle.smt_language.specs.Meaning.{meaning, declared_scope}
use Rattle.smt_language.specs.Undeclared.{has_unknown}
use Rattle.smt_language.specs.Nodes.{formula_nodes}

-- ---- what is written

abbrev x : ExpressionTree
x = Named (codes "x")

abbrev y : ExpressionTree
y = Named (codes "y")

abbrev number : ℕ → Literal
number n = Fits (pos n)

abbrev numeral : ℕ → ExpressionTree
numeral n = Numeral (number n)

abbrev less : List ExpressionTree → ExpressionTree
less es = Apply operator.Less (expressions_of es)

abbrev of_sort : List ℕ → List ℕ → SortedName
of_sort name sort = record { name = name; sort = sort }

abbrev real : List ℕ → SortedName
real name = of_sort name (codes "Real")

abbrev stands : List ℕ → ExpressionTree → LocalTree
stands name value = record { name = name; value = value }

-- ---- what it means

abbrev at : ℕ → language.TermTree
at n = language.Named (level n)

abbrev value : ℕ → language.TermTree
value n = language.Number (number n)

abbrev below : language.TermTree → language.TermTree → language.FormulaTree
below s t = plain.One (language.Compare relation.Less s t)

-- x and y are declared, in this order
abbrev means : Context → ExpressionTree → language.FormulaTree → Type 0
means c e f = meaning c (declared_scope (codes "x" ∷ codes "y" ∷ [])) 2 e ≡ Some (Formula f)

abbrev means_nothing : Context → ExpressionTree → Type 0
means_nothing c e = meaning c (declared_scope (codes "x" ∷ codes "y" ∷ [])) 2 e ≡ None

-- (let ((y x)) (exists ((x Real)) (< x y))): the name that is bound inside does not capture the one outside
captures_nothing : means Fields (Let (locals_of (stands (codes "y") x ∷ [])) (Quantified Exists (real (codes "x") ∷ []) (less (x ∷ y ∷ [])))) (plain.Ex (level 2) (below (at 2) (at 0)))
captures_nothing = refl

-- (let ((x y) (y x)) (< x y)): both stand for what they were outside
both_at_once : means Fields (Let (locals_of (stands (codes "x") y ∷ stands (codes "y") x ∷ [])) (less (x ∷ y ∷ []))) (below (at 1) (at 0))
both_at_once = refl

-- (let ((x (+ x 1))) (let ((x (+ x 1))) (< x y))): a let inside another
one_after_another : means Fields (Let (locals_of (stands (codes "x") (Apply operator.Plus (expressions_of (x ∷ numeral 1 ∷ []))) ∷ []))
    (Let (locals_of (stands (codes "x") (Apply operator.Plus (expressions_of (x ∷ numeral 1 ∷ []))) ∷ [])) (less (x ∷ y ∷ []))))
    (below (language.Sum (language.terms_of (language.Sum (language.terms_of (at 0 ∷ value 1 ∷ [])) ∷ value 1 ∷ []))) (at 1))
one_after_another = refl

-- (let ((p (forall ((z Real)) (< z x)))) (exists ((z Real)) (and p (< z y)))): the formula of p stays what it was outside
formula_inside : means Fields (Let (locals_of (stands (codes "p") (Quantified ForAll (real (codes "z") ∷ []) (less (Named (codes "z") ∷ x ∷ []))) ∷ []))
    (Quantified Exists (real (codes "z") ∷ []) (Apply operator.And (expressions_of (Named (codes "p") ∷ less (Named (codes "z") ∷ y ∷ []) ∷ [])))))
    (plain.Ex (level 2) (plain.And (language.formulas_of (plain.All (level 2) (below (at 2) (at 0)) ∷ below (at 2) (at 1) ∷ []))))
formula_inside = refl

-- (forall ((x Real) (y Real)) (exists ((x Real)) (< x y))): the name that is nearest
nearest : means Fields (Quantified ForAll (real (codes "x") ∷ real (codes "y") ∷ []) (Quantified Exists (real (codes "x") ∷ []) (less (x ∷ y ∷ []))))
    (plain.All (level 2) (plain.All (level 3) (plain.Ex (level 4) (below (at 4) (at 3)))))
nearest = refl

-- (< 0 (* 2 x) 2)
chain : means Integers (less (numeral 0 ∷ Apply operator.Times (expressions_of (numeral 2 ∷ x ∷ [])) ∷ numeral 2 ∷ []))
    (plain.And (language.formulas_of (below (value 0) (language.Product (language.terms_of (value 2 ∷ at 0 ∷ []))) ∷ below (language.Product (language.terms_of (value 2 ∷ at 0 ∷ []))) (value 2) ∷ [])))
chain = refl

-- (and ((_ divisible 3) (+ x 1)) (<= (- 3) x))
divided : means Integers (Apply operator.And (expressions_of (Divisible (number 3) (Apply operator.Plus (expressions_of (x ∷ numeral 1 ∷ [])))
    ∷ Apply operator.AtMost (expressions_of (Apply operator.Minus (expressions_of (numeral 3 ∷ [])) ∷ x ∷ [])) ∷ [])))
    (plain.And (language.formulas_of (plain.One (language.Cong (language.Sum (language.terms_of (at 0 ∷ value 1 ∷ []))) (value 0) (value 3))
    ∷ plain.One (language.Compare relation.AtMost (language.Negative (value 3)) (at 0)) ∷ [])))
divided = refl

-- (< 1.5 (/ 1 2)), and (- x y 1)
with_decimal : means Fields (less (Decimal (number 15) (number 10) ∷ Apply operator.Divided (expressions_of (numeral 1 ∷ numeral 2 ∷ [])) ∷ []))
    (below (language.Quotient (value 15) (value 10)) (language.Quotient (value 1) (value 2)))
with_decimal = refl

taken : means Fields (less (Apply operator.Minus (expressions_of (x ∷ y ∷ numeral 1 ∷ [])) ∷ x ∷ []))
    (below (language.Sum (language.terms_of (at 0 ∷ language.Negative (at 1) ∷ language.Negative (value 1) ∷ []))) (at 0))
taken = refl

-- (=> true false true), (= true false true), (distinct x y 1), (and true) and (not false)
to_the_right : means Fields (Apply operator.Implies (expressions_of (True ∷ False ∷ True ∷ []))) (plain.Impl plain.Yes (plain.Impl plain.No plain.Yes))
to_the_right = refl

equivalent : means Fields (Apply operator.Equal (expressions_of (True ∷ False ∷ True ∷ []))) (plain.And (language.formulas_of (plain.Equiv plain.Yes plain.No ∷ plain.Equiv plain.No plain.Yes ∷ [])))
equivalent = refl

each_two : means Fields (Apply operator.Distinct (expressions_of (x ∷ y ∷ numeral 1 ∷ [])))
    (plain.And (language.formulas_of (plain.One (language.Compare relation.Differs (at 0) (at 1)) ∷ plain.One (language.Compare relation.Differs (at 0) (value 1)) ∷ plain.One (language.Compare relation.Differs (at 1) (value 1)) ∷ [])))
each_two = refl

one_alone : means Fields (Apply operator.And (expressions_of (True ∷ []))) plain.Yes
one_alone = refl

negated : means Fields (Apply operator.Not (expressions_of (False ∷ []))) (plain.Not plain.No)
negated = refl

-- ---- what has no meaning

-- (and true 1), (< true 1), (= x true), (not x) and (let ((z (+ 1 true))) true)
formula_and_term : means_nothing Fields (Apply operator.And (expressions_of (True ∷ numeral 1 ∷ [])))
formula_and_term = refl

formula_compared : means_nothing Fields (less (True ∷ numeral 1 ∷ []))
formula_compared = refl

term_and_formula : means_nothing Fields (Apply operator.Equal (expressions_of (x ∷ True ∷ [])))
term_and_formula = refl

term_negated : means_nothing Fields (Apply operator.Not (expressions_of (x ∷ [])))
term_negated = refl

value_unused : means_nothing Fields (Let (locals_of (stands (codes "z") (Apply operator.Plus (expressions_of (numeral 1 ∷ True ∷ []))) ∷ [])) True)
value_unused = refl

-- a decimal and a quotient over the integers, what is divisible over the fields, and a name of the other sort
decimal_of_integers : means_nothing Integers (less (Decimal (number 15) (number 10) ∷ x ∷ []))
decimal_of_integers = refl

quotient_of_integers : means_nothing Integers (less (Apply operator.Divided (expressions_of (x ∷ numeral 2 ∷ [])) ∷ x ∷ []))
quotient_of_integers = refl

divisible_field : means_nothing Fields (Divisible (number 3) x)
divisible_field = refl

other_sort : means_nothing Integers (Quantified Exists (real (codes "x") ∷ []) True)
other_sort = refl

-- ---- unknown symbols and nodes

abbrev unknown : ExpressionTree → Type 0
unknown e = has_unknown (λ z. is_some (declared_scope (codes "x" ∷ codes "y" ∷ []) z)) e ≡ true

-- z in (< x z), and in (let ((z z)) true); not in (let ((z x)) (< z y))
unknown_symbol : unknown (less (x ∷ Named (codes "z") ∷ []))
unknown_symbol = refl

unknown_value : unknown (Let (locals_of (stands (codes "z") (Named (codes "z")) ∷ [])) True)
unknown_value = refl

all_known : has_unknown (λ z. is_some (declared_scope (codes "x" ∷ codes "y" ∷ []) z)) (Let (locals_of (stands (codes "z") x ∷ [])) (less (Named (codes "z") ∷ y ∷ []))) ≡ false
all_known = refl

-- (< (+ x x) (+ x x)) has 7 nodes
seven_nodes : formula_nodes (below (language.Sum (language.terms_of (at 0 ∷ at 0 ∷ []))) (language.Sum (language.terms_of (at 0 ∷ at 0 ∷ [])))) ≡ 7
seven_nodes = refl
