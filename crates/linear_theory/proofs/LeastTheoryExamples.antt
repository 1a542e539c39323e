-- Worked examples of least values, by hand. The names z, x and y are 0, 1 and 2.
use Rattle.std.proofs.Common.{◌≡◌, [], ◌∷◌, refl}
use Rattle.std.proofs.Math.IntN.{ℤ, pos, negsuc}
use Rattle.exact_numbers.specs.Divides.{content_of, gcd_of, euclid}
use Rattle.exact_numbers.specs.Frac.{Frac}
use Rattle.logic_meaning.specs.Formula.{Yes, No, One, Not, And, Or, none, also}
use Rattle.logic_meaning.specs.NegationNormal.{both}
use Rattle.logic_meaning.specs.Form.{Form, coefficient, without, scale, combine}
use Rattle.logic_meaning.specs.Atom.{Relation, Equals, Below, AtMost, AtLeast, Compare}
use Rattle.logic_meaning.specs.Tree.{Tree}
use Rattle.elimination_theory.specs.FieldsExample.{multiple_of}
use Rattle.logic_meaning.specs.FieldsPoints.{form_over}
use Rattle.logic_meaning.specs.declared.side.Side.TheVariants.{Lower}
use Rattle.elimination_theory.specs.Elimination.{field_elimination}
use Rattle.linear_theory.specs.Answer.{Infeasible, Unbounded, At, least_of}

-- n * z + k
abbrev of_z : ℤ → ℤ → Form
of_z n k = record { terms = multiple_of n 0 ∷ []; constant = k }

abbrev atom : Relation → Form → Tree
atom r f = One (Compare r f)

abbrev fraction : ℤ → ℤ → Frac
fraction n d = record { numerator = n; denominator = d }

-- ---- formulas in z

-- 2*z >= 1
at_half : least_of 0 (atom AtLeast (of_z (pos 2) (negsuc 0))) ≡ At (fraction (pos 1) (pos 2))
unfolding coefficient gcd_of euclid
at_half = refl

-- z >= 1 and z <= 0
never : least_of 0 (And (both (atom AtLeast (of_z (pos 1) (negsuc 0))) (atom AtMost (of_z (pos 1) (pos 0))))) ≡ Infeasible
unfolding coefficient gcd_of euclid
never = refl

-- z <= 3
no_end : least_of 0 (atom AtMost (of_z (pos 1) (negsuc 2))) ≡ Unbounded
unfolding coefficient gcd_of euclid
no_end = refl

-- z = 3, with the signs changed
at_three : least_of 0 (atom Equals (of_z (negsuc 0) (pos 3))) ≡ At (fraction (pos 3) (pos 1))
unfolding coefficient gcd_of euclid
at_three = refl

-- z = 3 or not z < 2
lesser_of_two : least_of 0 (Or (both (atom Equals (of_z (pos 1) (negsuc 2))) (Not (atom Below (of_z (pos 1) (negsuc 1)))))) ≡ At (fraction (pos 2) (pos 1))
unfolding coefficient gcd_of euclid
lesser_of_two = refl

-- a constant has no critical value
always : least_of 0 Yes ≡ Unbounded
always = refl

nowhere : least_of 0 No ≡ Infeasible
nowhere = refl

-- ---- targets

-- a*z + b*x + c*y + k
abbrev sum : ℤ → ℤ → ℤ → ℤ → Form
sum a b c k = record { terms = multiple_of a 0 ∷ multiple_of b 1 ∷ multiple_of c 2 ∷ []; constant = k }

-- z = x and 2*x >= 1
least_half : least_of 0 (field_elimination Lower 1 (And (both (atom Equals (sum (pos 1) (negsuc 0) (pos 0) (pos 0))) (atom AtLeast (sum (pos 0) (pos 2) (pos 0) (negsuc 0)))))) ≡ At (fraction (pos 1) (pos 2))
unfolding coefficient without scale combine form_over content_of gcd_of euclid
least_half = refl

-- z = x and x <= 3
without_least : least_of 0 (field_elimination Lower 1 (And (both (atom Equals (sum (pos 1) (negsuc 0) (pos 0) (pos 0))) (atom AtMost (sum (pos 0) (pos 1) (pos 0) (negsuc 2)))))) ≡ Unbounded
unfolding coefficient without scale combine form_over content_of gcd_of euclid
without_least = refl

-- z = x and x >= 1 and x <= 0
never_met : least_of 0 (field_elimination Lower 1 (And (also (atom Equals (sum (pos 1) (negsuc 0) (pos 0) (pos 0))) (also (atom AtLeast (sum (pos 0) (pos 1) (pos 0) (negsuc 0))) (also (atom AtMost (sum (pos 0) (pos 1) (pos 0) (pos 0))) none))))) ≡ Infeasible
unfolding coefficient without scale combine form_over content_of gcd_of euclid
never_met = refl

-- z = 2*x + 3*y and x >= 0 and y >= 0 and x + y >= 1
abbrev two_names : Tree
two_names = And (also (atom Equals (sum (pos 1) (negsuc 1) (negsuc 2) (pos 0))) (also (atom AtLeast (sum (pos 0) (pos 1) (pos 0) (pos 0))) (also (atom AtLeast (sum (pos 0) (pos 0) (pos 1) (pos 0))) (also (atom AtLeast (sum (pos 0) (pos 1) (pos 1) (negsuc 0))) none))))

least_two : least_of 0 (field_elimination Lower 1 (field_elimination Lower 2 two_names)) ≡ At (fraction (pos 2) (pos 1))
unfolding coefficient without scale combine form_over content_of gcd_of euclid
least_two = refl
