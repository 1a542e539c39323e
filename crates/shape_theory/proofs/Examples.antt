-- Simplification worked by hand. x is the name 1, y the name 2.
use Rattle.std.proofs.Common.{◌≡◌, ℕ, Bool, true, false, [], ◌∷◌, refl, arith}
use Rattle.std.proofs.Math.IntN.{ℤ, pos, negsuc}
use Rattle.std.proofs.lemmas.Int.{ints}
use Rattle.exact_numbers.specs.Divides.{content_of, gcd_of, euclid}
use Rattle.logic_meaning.specs.Context.{Fields, Integers}
use Rattle.logic_meaning.specs.Form.{coefficient}
use Rattle.logic_meaning.specs.Atom.{Atom, Relation, Equals, Differs, Below, AtMost, Above, AtLeast, Compare, Congruent}
use Rattle.logic_meaning.specs.Formula.{Yes, No, One, And, Or, Ex, All, none, also}
use Rattle.logic_meaning.specs.Tree.{Tree}
use Rattle.logic_meaning.specs.declared.junction.Junction.TheVariants.{Conjunction}
use Rattle.logic_meaning.specs.Merging.{MergesInto}
use Rattle.normal_atoms.specs.Computed.{IsNormalWithin}
use Rattle.normal_atoms.proofs.Computed.{merged_right}
use Rattle.logic_meaning.specs.Trees.{IsReduced}
use Rattle.shape_theory.specs.Simplifiable.{simplified_under}

-- n + c relation 0 for the name n
abbrev is : ℕ → Relation → ℤ → Atom
is n r c = Compare r (record { terms = record { times = pos 1; name = n } ∷ []; constant = c })

-- whether x + c is congruent to 0 modulo m
abbrev class_of : Bool → ℕ → ℤ → Atom
class_of b m c = Congruent b m (record { terms = record { times = pos 1; name = 1 } ∷ []; constant = c })

abbrev two : Tree → Tree → Tree
two f g = And (also f (also g none))

abbrev either : Tree → Tree → Tree
either f g = Or (also f (also g none))

-- ---- merging

-- x >= 0 and x <> 0 is x > 0
merged_and : simplified_under Fields [] (two (One (is 1 AtLeast (pos 0))) (One (is 1 Differs (pos 0)))) ≡ One (is 1 Above (pos 0))
unfolding content_of gcd_of euclid
merged_and = refl

-- x < 0 or x > 0 is x <> 0
merged_or : simplified_under Fields [] (either (One (is 1 Below (pos 0))) (One (is 1 Above (pos 0)))) ≡ One (is 1 Differs (pos 0))
unfolding content_of gcd_of euclid
merged_or = refl

-- x > 0 and x - 1 < 0 stays
kept_and : simplified_under Fields [] (two (One (is 1 Above (pos 0))) (One (is 1 Below (negsuc 0)))) ≡ two (One (is 1 Above (pos 0))) (One (is 1 Below (negsuc 0)))
unfolding content_of gcd_of euclid coefficient
kept_and = refl

-- over the integers x <= 0 or x - 1 > 0 is x - 1 <> 0
merged_or_integers : simplified_under Integers [] (either (One (is 1 AtMost (pos 0))) (One (is 1 Above (negsuc 0)))) ≡ One (is 1 Differs (negsuc 0))
unfolding content_of gcd_of euclid coefficient
merged_or_integers = refl

-- over the integers x > 0 and x - 1 <> 0 is x - 1 > 0
merged_and_integers : simplified_under Integers [] (two (One (is 1 Above (pos 0))) (One (is 1 Differs (negsuc 0)))) ≡ One (is 1 Above (negsuc 0))
unfolding content_of gcd_of euclid coefficient
merged_and_integers = refl

-- modulo 3 neither x nor x + 1: x + 2
third_class : simplified_under Integers [] (two (One (class_of false 3 (pos 0))) (One (class_of false 3 (pos 1)))) ≡ One (class_of true 3 (pos 2))
unfolding content_of gcd_of euclid coefficient
third_class = refl

-- modulo 4 they stay
kept_classes : simplified_under Integers [] (two (One (class_of false 4 (pos 0))) (One (class_of false 4 (pos 1)))) ≡ two (One (class_of false 4 (pos 0))) (One (class_of false 4 (pos 1)))
unfolding content_of gcd_of euclid coefficient
kept_classes = refl

-- ---- quantifiers

-- x > 0 and ex(x, x > 0) stays: the x outside is another
other_name : simplified_under Fields [] (two (One (is 1 Above (pos 0))) (Ex 1 (One (is 1 Above (pos 0))))) ≡ two (One (is 1 Above (pos 0))) (Ex 1 (One (is 1 Above (pos 0))))
unfolding content_of gcd_of euclid coefficient
other_name = refl

-- y > 0 and ex(x, x > 0 and y > 0) is y > 0 and ex(x, x > 0)
under_quantifier : simplified_under Fields [] (two (One (is 2 Above (pos 0))) (Ex 1 (two (One (is 1 Above (pos 0))) (One (is 2 Above (pos 0)))))) ≡ two (One (is 2 Above (pos 0))) (Ex 1 (One (is 1 Above (pos 0))))
unfolding content_of gcd_of euclid coefficient
under_quantifier = refl

-- under x > 0, ex(x, x > 0) stays
assumed_other_name : simplified_under Fields ((is 1 Above (pos 0)) ∷ []) (Ex 1 (One (is 1 Above (pos 0)))) ≡ Ex 1 (One (is 1 Above (pos 0)))
unfolding content_of gcd_of euclid coefficient
assumed_other_name = refl

-- all(x, y = 0) is y = 0
quantifier_goes : simplified_under Fields [] (All 1 (One (is 2 Equals (pos 0)))) ≡ One (is 2 Equals (pos 0))
unfolding content_of gcd_of euclid coefficient
quantifier_goes = refl

-- y > 0 or all(x, x < 0 or y > 0) is y > 0 or all(x, x < 0): beside an or it is false
beside_or : simplified_under Fields [] (either (One (is 2 Above (pos 0))) (All 1 (either (One (is 1 Below (pos 0))) (One (is 2 Above (pos 0)))))) ≡ either (One (is 2 Above (pos 0))) (All 1 (One (is 1 Below (pos 0))))
unfolding content_of gcd_of euclid coefficient
beside_or = refl

-- ---- lists

-- nested lists of one junction become one, and equal members go
flattened : simplified_under Fields [] (two (two (One (is 1 Above (pos 0))) (Ex 3 (two (One (is 3 Above (pos 0))) (One (is 2 Above (pos 0)))))) (Ex 3 (two (One (is 3 Above (pos 0))) (One (is 2 Above (pos 0)))))) ≡ two (One (is 1 Above (pos 0))) (Ex 3 (two (One (is 3 Above (pos 0))) (One (is 2 Above (pos 0)))))
unfolding content_of gcd_of euclid coefficient
flattened = refl

-- x < 0 or (x >= 0 and y = 0) is x < 0 or y = 0
negation_known : simplified_under Fields [] (either (One (is 1 Below (pos 0))) (two (One (is 1 AtLeast (pos 0))) (One (is 2 Equals (pos 0))))) ≡ either (One (is 1 Below (pos 0))) (One (is 2 Equals (pos 0)))
unfolding content_of gcd_of euclid coefficient
negation_known = refl

-- an atom that comes of a member late is known to the earlier in the next pass: ex(x, x > 0 and y > 0) and all(x, y > 0)
passed_again : simplified_under Fields [] (two (Ex 1 (two (One (is 1 Above (pos 0))) (One (is 2 Above (pos 0))))) (All 1 (One (is 2 Above (pos 0))))) ≡ two (One (is 2 Above (pos 0))) (Ex 1 (One (is 1 Above (pos 0))))
unfolding content_of gcd_of euclid coefficient
passed_again = refl

-- ---- assumptions

-- under x < 0, x <= 0 is true
decided_true : simplified_under Fields ((is 1 Below (pos 0)) ∷ []) (One (is 1 AtMost (pos 0))) ≡ Yes
unfolding content_of gcd_of euclid coefficient
decided_true = refl

-- under x < 0, x > 0 or y = 0 is y = 0
decided_false : simplified_under Fields ((is 1 Below (pos 0)) ∷ []) (either (One (is 1 Above (pos 0))) (One (is 2 Equals (pos 0)))) ≡ One (is 2 Equals (pos 0))
unfolding content_of gcd_of euclid coefficient
decided_false = refl

-- under x > 0, y > 0 and x > 0 is y > 0, and x > 0 itself true
assumption_goes : simplified_under Fields ((is 1 Above (pos 0)) ∷ []) (two (One (is 2 Above (pos 0))) (One (is 1 Above (pos 0)))) ≡ One (is 2 Above (pos 0))
unfolding content_of gcd_of euclid coefficient
assumption_goes = refl

-- under x > 0 and x < 0, which contradict each other, x = 0 is false
contradicting : simplified_under Fields ((is 1 Above (pos 0)) ∷ (is 1 Below (pos 0)) ∷ []) (One (is 1 Equals (pos 0))) ≡ No
unfolding content_of gcd_of euclid coefficient
contradicting = refl

-- over the integers, under x > 0, x - 1 = 0 or x <= 0 is x - 1 = 0
decided_over_integers : simplified_under Integers ((is 1 Above (pos 0)) ∷ []) (either (One (is 1 Equals (negsuc 0))) (One (is 1 AtMost (pos 0)))) ≡ One (is 1 Equals (negsuc 0))
unfolding content_of gcd_of euclid coefficient
decided_over_integers = refl

-- ---- what is not Reduced

x_normal : (r : Relation) → IsNormalWithin Fields (is 1 r (pos 0))
unfolding content_of gcd_of euclid
x_normal r = record {
  normal = record { oriented = record { sorted = record { rising = (tt, tt); nonzero = (λ (e : pos 1 ≡ pos 0). omega (arith, ints), tt) }; positive = omega (arith, ints) }; coprime = refl };
  within = omega arith;
}

-- x >= 0 and x <> 0: they merge
not_merged : ¬ (IsReduced Fields (two (One (is 1 AtLeast (pos 0))) (One (is 1 Differs (pos 0)))) [])
unfolding content_of gcd_of euclid
not_merged h =
    let m : MergesInto Fields Conjunction (is 1 AtLeast (pos 0)) (is 1 Differs (pos 0)) (is 1 Above (pos 0)) = (merged_right Fields Conjunction (is 1 AtLeast (pos 0)) (is 1 Differs (pos 0)) (x_normal AtLeast) (x_normal Differs)).0 in
    let k = h.2.0.0.past_limit (is 1 Above (pos 0)) m in
    omega arith

-- x > 0 and (y > 0 and y < 1): a list in a list of its junction
not_flattened : ¬ (IsReduced Fields (two (One (is 1 Above (pos 0))) (two (One (is 2 Above (pos 0))) (One (is 2 Below (negsuc 0))))) [])
not_flattened h = h.3.2.0

-- ex(x, y = 0): the name is not free
not_free_there : ¬ (IsReduced Fields (Ex 1 (One (is 2 Equals (pos 0)))) [])
unfolding coefficient
not_free_there h = h.0 refl

-- true stands in no list
not_constant : ¬ (IsReduced Fields (two Yes (One (is 1 Above (pos 0)))) [])
not_constant h = h.3.0

-- equal members
not_equal : (f : Tree) → ¬ (IsReduced Fields (two (Ex 1 f) (Ex 1 f)) [])
not_equal f h = h.1.0.0 refl

-- one member is no list
not_alone : ¬ (IsReduced Fields (And (also (One (is 1 Above (pos 0))) none)) [])
not_alone h = h.0
