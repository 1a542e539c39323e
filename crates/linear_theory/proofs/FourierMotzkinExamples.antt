-- Worked examples of the search, by hand. The names x and y are 0 and 1.
use Rattle.std.proofs.Common.{◌≡◌, ℕ, ◌^◌, [], ◌∷◌, refl}
use Rattle.std.proofs.Math.IntN.{ℤ, pos, negsuc}
use Rattle.exact_numbers.specs.Divides.{content_of, gcd_of, lcm_of, euclid}
use Rattle.exact_numbers.specs.Frac.{inverted, sum_step, product_step}
use Rattle.exact_numbers.specs.Limit.{checked}
use Rattle.logic_meaning.specs.Form.{Form, coefficient, without, scale, combine}
use Rattle.logic_meaning.specs.Measured.{stopped, done, Overflow, Nodes}
use Rattle.logic_meaning.specs.Sorted.{gathered}
use Rattle.logic_meaning.specs.Reduction.{quotient}
use Rattle.logic_meaning.specs.Values.{Value}
use Rattle.logic_meaning.specs.Constraints.{Bound, Equal, AtMost, Below, Constraint}
use Rattle.logic_meaning.specs.Bounds.{terms_at, bound_of}
use Rattle.logic_meaning.specs.Search.{At, Farkas, search}

-- a * x + k
abbrev of_x : ℤ → ℤ → Form
of_x a k = record { terms = record { times = a; name = 0 } ∷ []; constant = k }

-- a * x + b * y + k
abbrev of_both : ℤ → ℤ → ℤ → Form
of_both a b k = record { terms = record { times = a; name = 0 } ∷ record { times = b; name = 1 } ∷ []; constant = k }

abbrev is : Bound → Form → Constraint
is bound f = record { form = f; bound = bound }

abbrev put : ℕ → ℤ → ℤ → Value
put x n d = record { name = x; at = record { numerator = n; denominator = d } }

-- x >= 1 and x <= 0: the sum of 1 - x and x is 1
never : search 3 (0 ∷ []) (is AtMost (of_x (negsuc 0) (pos 1)) ∷ is AtMost (of_x (pos 1) (pos 0)) ∷ []) ≡ done (Farkas (pos 1 ∷ pos 1 ∷ []))
unfolding coefficient without scale combine content_of gcd_of lcm_of euclid gathered quotient checked inverted sum_step product_step terms_at bound_of
never = refl

-- two rows, and a third one that is too many
too_many : search 2 (0 ∷ []) (is AtMost (of_x (negsuc 0) (pos 1)) ∷ is AtMost (of_x (pos 1) (pos 0)) ∷ []) ≡ stopped Nodes
unfolding coefficient without scale combine content_of gcd_of lcm_of euclid gathered quotient checked inverted sum_step product_step terms_at bound_of
too_many = refl

-- x > 0 and x < 1: half way
half_way : search 3 (0 ∷ []) (is Below (of_x (negsuc 0) (pos 0)) ∷ is Below (of_x (pos 1) (negsuc 0)) ∷ []) ≡ done (At (put 0 (pos 1) (pos 2) ∷ []))
unfolding coefficient without scale combine content_of gcd_of lcm_of euclid gathered quotient checked inverted sum_step product_step terms_at bound_of
half_way = refl

-- 2 * x + y = 3 and x >= y: y has only the upper bound 1, so it is 0; then both bounds of x are 3/2
both_bounds : search 10 (0 ∷ 1 ∷ []) (is Equal (of_both (pos 2) (pos 1) (negsuc 2)) ∷ is AtMost (of_both (negsuc 0) (pos 1) (pos 0)) ∷ []) ≡ done (At (put 0 (pos 3) (pos 2) ∷ put 1 (pos 0) (pos 1) ∷ []))
unfolding coefficient without scale combine content_of gcd_of lcm_of euclid gathered quotient checked inverted sum_step product_step terms_at bound_of
both_bounds = refl

-- no constraints: the point without names
nothing_asked : search 0 [] [] ≡ done (At [])
nothing_asked = refl

-- 1 <= 0
false_alone : search 1 [] (is AtMost (record { terms = []; constant = pos 1 }) ∷ []) ≡ done (Farkas (pos 1 ∷ []))
unfolding coefficient without scale combine content_of gcd_of lcm_of euclid gathered quotient checked inverted sum_step product_step terms_at bound_of
false_alone = refl

-- 2 ^ 126 * x + 1 <= 0 and 3 * x >= 0: 3 * 2 ^ 126 passes the limit
too_large : search 3 (0 ∷ []) (is AtMost (of_x (pos (2 ^ 126)) (pos 1)) ∷ is AtMost (of_x (negsuc 2) (pos 0)) ∷ []) ≡ stopped Overflow
unfolding coefficient without scale combine content_of gcd_of lcm_of euclid gathered quotient checked inverted sum_step product_step terms_at bound_of
too_large = refl
