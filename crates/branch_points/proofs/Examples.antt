-- Names of small branches: how many points they have, and what is put for them.
use Rattle.std.proofs.Common.{◌≡◌, true, [], ◌∷◌, List, Some, None, refl}
use Rattle.std.proofs.Math.IntN.{ℤ, pos}
use Rattle.exact_numbers.specs.Divides.{gcd_of, euclid, lcm_of}
use Rattle.logic_meaning.specs.Context.{Fields, Integers}
use Rattle.logic_meaning.specs.Formula.{One, And, Or}
use Rattle.logic_meaning.specs.NegationNormal.{both}
use Rattle.logic_meaning.specs.Form.{Form, coefficient}
use Rattle.logic_meaning.specs.Atom.{Atom, Compare, Congruent, Equals, Above, AtMost}
use Rattle.logic_meaning.specs.declared.side.Side.TheVariants.{Lower, Upper}
use Rattle.elimination_theory.specs.FieldsExample.{multiple_of}
use Rattle.logic_meaning.specs.Direct.{first_equation}
use Rattle.branch_points.specs.Chosen.{conjuncts}
use Rattle.branch_points.specs.Counts.{count_of}

-- k times the name 0
abbrev times : ℤ → Form
times k = record { terms = multiple_of k 0 ∷ []; constant = pos 0 }

-- x > 0, 3 * x <= 0, and x is even
abbrev beside : List Atom
beside = Compare Above (times (pos 1)) ∷ Compare AtMost (times (pos 3)) ∷ Congruent true 2 (times (pos 1)) ∷ []

-- the scale is 3 and the span 6: two classes, and six numbers beside the one end on either side
below : count_of Integers Lower 0 beside ≡ 8
unfolding coefficient gcd_of euclid lcm_of
below = refl

above : count_of Integers Upper 0 beside ≡ 8
unfolding coefficient gcd_of euclid lcm_of
above = refl

-- over the fields an infinity and the one end
in_fields : count_of Fields Upper 0 (Compare Above (times (pos 1)) ∷ Compare AtMost (times (pos 3)) ∷ []) ≡ 2
unfolding coefficient
in_fields = refl

abbrev zero_thrice : Atom
zero_thrice = Compare Equals (times (pos 3))

-- the equation is found behind another member, and alone; in a disjunction it is no conjunct
behind : first_equation 0 (conjuncts (And (both (One (Compare Above (times (pos 1)))) (One zero_thrice)))) ≡ Some (times (pos 3))
unfolding coefficient
behind = refl

alone : first_equation 0 (conjuncts (One zero_thrice)) ≡ Some (times (pos 3))
unfolding coefficient
alone = refl

not_in_or : first_equation 0 (conjuncts (Or (both (One zero_thrice) (One zero_thrice)))) ≡ None
not_in_or = refl
