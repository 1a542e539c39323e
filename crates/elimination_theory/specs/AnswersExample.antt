-- Answers over the integers whose period is one of the branch, and not of the formula: x = y and (4 divides x + y + 1 or 3 divides y).
use Rattle.std.specs.Prelude.{pos, negsuc, [], ◌∷◌, true}
use Rattle.logic_meaning.specs.Context.{Integers}
use Rattle.logic_meaning.specs.Formula.{Yes, One, And, Or}
use Rattle.logic_meaning.specs.NegationNormal.{both}
use Rattle.logic_meaning.specs.Atom.{Compare, Congruent, Equals}
use Rattle.logic_meaning.specs.Answer.{Exact, Periodic}
use Rattle.logic_meaning.specs.Tree.{Tree}
use Rattle.elimination_theory.specs.FieldsExample.{multiple_of, named, difference}
use Rattle.logic_meaning.specs.Answers.{Step}
use Rattle.elimination_theory.specs.AnswersTheorems.{Lead}

-- x and y are the names 0 and 1
abbrev pub matrix : Tree
matrix = And (both (One (Compare Equals (difference 0 1)))
    (Or (both (One (Congruent true 4 (record { terms = multiple_of (pos 1) 0 ∷ multiple_of (pos 1) 1 ∷ []; constant = pos 1 }))) (One (Congruent true 3 (named 1))))))

-- with y for x the first congruence is that of 2 * y + 1, which is false: 3 divides y is left
abbrev pub branch : Tree
branch = One (Congruent true 3 (named 1))

-- x = y, put in first
abbrev pub x_is_y : Step
x_is_y = record { name = 0; place = Exact (named 1) 1; branch = matrix }

-- y = 3 - 3 * infinity
abbrev pub y_is_far : Step
y_is_far = record { name = 1; place = Periodic (pos 3) (negsuc 2); branch = branch }

-- The steps lead to true. 3 is a period of the branch, and none of the congruence modulo 4.
abbrev pub PeriodOfTheBranch : Type 0
PeriodOfTheBranch = Lead Integers (y_is_far ∷ x_is_y ∷ []) matrix Yes
