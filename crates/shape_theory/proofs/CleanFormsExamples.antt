-- Clean forms worked by hand. x, y and z are the names 1, 2 and 3.
use Rattle.std.proofs.Common.{◌≡◌, ℕ, [], ◌∷◌, refl}
use Rattle.std.proofs.Math.IntN.{ℤ, pos}
use Rattle.exact_numbers.specs.Divides.{content_of, gcd_of, euclid}
use Rattle.logic_meaning.specs.Context.{Fields}
use Rattle.logic_meaning.specs.Atom.{Relation, Differs, Below, Above, AtLeast, Compare}
use Rattle.logic_meaning.specs.Formula.{Yes, No, One, And, Or, none, also}
use Rattle.logic_meaning.specs.Tree.{Tree}
use Rattle.logic_meaning.specs.declared.junction.Junction.TheVariants.{Conjunction, Disjunction}
use Rattle.logic_meaning.specs.PlainForms.{plain_form, literals}
use Rattle.shape_theory.specs.CleanFormsLaws.{cleaned}

-- n + c relation 0 for the name n
abbrev is : ℕ → Relation → ℤ → Tree
is n r c = One (Compare r (record { terms = record { times = pos 1; name = n } ∷ []; constant = c }))

-- the name n is positive
abbrev positive : ℕ → Tree
positive n = is n Above (pos 0)

abbrev two : Tree → Tree → Tree
two f g = And (also f (also g none))

abbrev either : Tree → Tree → Tree
either f g = Or (also f (also g none))

-- (x > 0 or y > 0) and z > 0
distributed_and : cleaned Fields Conjunction (two (either (positive 1) (positive 2)) (positive 3)) ≡ either (two (positive 1) (positive 3)) (two (positive 2) (positive 3))
unfolding content_of gcd_of euclid
distributed_and = refl

plain_and : plain_form Conjunction (two (either (positive 1) (positive 2)) (positive 3)) ≡ either (two (positive 1) (positive 3)) (two (positive 2) (positive 3))
plain_and = refl

-- (x > 0 and y > 0) or z > 0
distributed_or : cleaned Fields Disjunction (either (two (positive 1) (positive 2)) (positive 3)) ≡ two (either (positive 1) (positive 3)) (either (positive 2) (positive 3))
unfolding content_of gcd_of euclid
distributed_or = refl

-- (x > 0 or y > 0) and (x > 0 or z > 0): an inner list that contains all atoms of another goes
absorbed : cleaned Fields Conjunction (two (either (positive 1) (positive 2)) (either (positive 1) (positive 3))) ≡ either (positive 1) (two (positive 2) (positive 3))
unfolding content_of gcd_of euclid
absorbed = refl

plain_not_absorbed : plain_form Conjunction (two (either (positive 1) (positive 2)) (either (positive 1) (positive 3))) ≡ Or (also (two (positive 1) (positive 1)) (also (two (positive 1) (positive 3)) (also (two (positive 2) (positive 1)) (also (two (positive 2) (positive 3)) none))))
plain_not_absorbed = refl

-- its places of atoms
eight : literals Conjunction (two (either (positive 1) (positive 2)) (either (positive 1) (positive 3))) ≡ 8
eight = refl

-- x >= 0 and (x <> 0 or x < 0): merged atoms, and a conjunction that is false goes
merged_atoms : cleaned Fields Conjunction (two (is 1 AtLeast (pos 0)) (either (is 1 Differs (pos 0)) (is 1 Below (pos 0)))) ≡ positive 1
unfolding content_of gcd_of euclid
merged_atoms = refl

abbrev pair : Tree
pair = either (positive 1) (positive 2)

-- a conjunction of 20 disjunctions of two
twenty : literals Conjunction (And (also (pair) (also pair (also pair (also pair (also pair (also pair (also pair (also pair (also pair (also pair (also pair (also pair (also pair (also pair (also pair (also pair (also pair (also pair (also pair (also pair none))))))))))))))))))))) ≡ 20971520
twenty = refl

-- constants
true_member : cleaned Fields Conjunction (two Yes (either (positive 1) (two No (positive 2)))) ≡ positive 1
unfolding content_of gcd_of euclid
true_member = refl

true_whole : cleaned Fields Disjunction (either Yes (two (positive 1) (positive 2))) ≡ Yes
unfolding content_of gcd_of euclid
true_whole = refl

plain_true : plain_form Conjunction (either Yes (two (positive 1) (positive 2))) ≡ Yes
plain_true = refl

no_places : literals Conjunction (either Yes (two (positive 1) (positive 2))) ≡ 0
no_places = refl
