-- Prenex forms worked by hand.
use Rattle.std.proofs.Common.{◌≡◌, ℕ, [], ◌∷◌, refl}
use Rattle.std.proofs.Math.IntN.{pos, negsuc}
use Rattle.exact_numbers.specs.Divides.{content_of, gcd_of, euclid}
use Rattle.logic_meaning.specs.Context.{Fields}
use Rattle.logic_meaning.specs.Sorted.{gathered}
use Rattle.logic_meaning.specs.Atom.{Relation, Below, Above, Compare}
use Rattle.logic_meaning.specs.Formula.{Yes, One, And, Or, Ex, All, none, also}
use Rattle.logic_meaning.specs.Tree.{Tree}
use Rattle.logic_meaning.specs.Reduction.{quotient}
use Rattle.logic_meaning.specs.NormalForm.{normal_atom}
use Rattle.logic_meaning.specs.Renaming.{new_count}
use Rattle.logic_meaning.specs.Prenex.{prenex_of}

-- n relation 0 for the name n
abbrev is : ℕ → Relation → Tree
is n r = One (Compare r (record { terms = record { times = pos 1; name = n } ∷ []; constant = pos 0 }))

-- m - n > 0 for the names m and n
abbrev exceeds : ℕ → ℕ → Tree
exceeds m n = One (Compare Above (record { terms = record { times = pos 1; name = m } ∷ record { times = negsuc 0; name = n } ∷ []; constant = pos 0 }))

abbrev two : Tree → Tree → Tree
two f g = And (also f (also g none))

abbrev either : Tree → Tree → Tree
either f g = Or (also f (also g none))

-- ---- order and blocks

-- ex(x, x > 0) and all(y, y - a > 0), with x, y, a as 0, 1, 2: ex(x, all(y, x > 0 and y - a > 0))
both_in_front : prenex_of Fields 3 (two (Ex 0 (is 0 Above)) (All 1 (exceeds 1 2))) ≡ Ex 0 (All 1 (two (is 0 Above) (exceeds 1 2)))
unfolding normal_atom gathered content_of gcd_of euclid quotient
both_in_front = refl

-- all(y, y > 0) and ex(x, all(z, z > 0)), with x, y, z as 0, 1, 2: ex begins with two blocks, all with three
ex_begins : prenex_of Fields 3 (two (All 1 (is 1 Above)) (Ex 0 (All 2 (is 2 Above)))) ≡ Ex 0 (All 1 (All 2 (two (is 1 Above) (is 2 Above))))
unfolding normal_atom gathered content_of gcd_of euclid quotient
ex_begins = refl

-- all(x, ex(y, y > 0)) or ex(z, z > 0): all begins with two blocks, and z stands with y
all_begins : prenex_of Fields 3 (either (All 0 (Ex 1 (is 1 Above))) (Ex 2 (is 2 Above))) ≡ All 0 (Ex 1 (Ex 2 (either (is 1 Above) (is 2 Above))))
unfolding normal_atom gathered content_of gcd_of euclid quotient
all_begins = refl

-- constants and lists stay
constants_stay : prenex_of Fields 1 (two Yes (And none)) ≡ two Yes (And none)
constants_stay = refl

-- ---- names

-- a > 0 and ex(a, a < 0): ex(v1, a > 0 and v1 < 0)
free_name_clashes : prenex_of Fields 1 (two (is 0 Above) (Ex 0 (is 0 Below))) ≡ Ex 1 (two (is 0 Above) (is 1 Below))
unfolding normal_atom gathered content_of gcd_of euclid quotient
free_name_clashes = refl

-- ex(x, x > 0) and ex(x, x < 0): ex(x, ex(v1, x > 0 and v1 < 0))
repeated_name : prenex_of Fields 1 (two (Ex 0 (is 0 Above)) (Ex 0 (is 0 Below))) ≡ Ex 0 (Ex 1 (two (is 0 Above) (is 1 Below)))
unfolding normal_atom gathered content_of gcd_of euclid quotient
repeated_name = refl

-- ex(x, x > 0 and ex(x, x < 0)): ex(x, ex(v1, x > 0 and v1 < 0))
shadowed_name : prenex_of Fields 1 (Ex 0 (two (is 0 Above) (Ex 0 (is 0 Below)))) ≡ Ex 0 (Ex 1 (two (is 0 Above) (is 1 Below)))
unfolding normal_atom gathered content_of gcd_of euclid quotient
shadowed_name = refl

-- ex(x, ex(x, x > 0)) and x < 0, with one name: both are renamed, ex(v1, ex(v2, v2 > 0 and x < 0))
renamed_twice : prenex_of Fields 1 (two (Ex 0 (Ex 0 (is 0 Above))) (is 0 Below)) ≡ Ex 1 (Ex 2 (two (is 2 Above) (is 0 Below)))
unfolding normal_atom gathered content_of gcd_of euclid quotient
renamed_twice = refl

two_are_new : new_count 1 (two (Ex 0 (Ex 0 (is 0 Above))) (is 0 Below)) ≡ 2
unfolding gathered
two_are_new = refl

-- a name that is quantified alone stays
quantified_alone : prenex_of Fields 1 (two (is 1 Above) (Ex 0 (is 0 Below))) ≡ Ex 0 (two (is 1 Above) (is 0 Below))
unfolding normal_atom gathered content_of gcd_of euclid quotient
quantified_alone = refl

-- the order of the names in an atom may change, and so its sign: x < 0 and ex(x, x - y > 0), with x, y as 0, 1, has
-- y - v1 < 0
sign_changes : prenex_of Fields 2 (two (is 0 Below) (Ex 0 (exceeds 0 1))) ≡
    Ex 2 (two (is 0 Below) (One (Compare Below (record { terms = record { times = pos 1; name = 1 } ∷ record { times = negsuc 0; name = 2 } ∷ []; constant = pos 0 }))))
unfolding normal_atom gathered content_of gcd_of euclid quotient
sign_changes = refl
