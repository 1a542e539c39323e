-- Worked examples of the two passes, by hand. The names x and y are 0 and 1.
use Rattle.std.proofs.Common.{◌≡◌, ℕ, Bool, false, Some, [], ◌∷◌, refl}
use Rattle.std.proofs.Math.IntN.{ℤ, pos, negsuc}
use Rattle.exact_numbers.specs.Divides.{content_of, gcd_of, lcm_of, euclid}
use Rattle.exact_numbers.specs.Frac.{inverted, sum_step, product_step}
use Rattle.exact_numbers.specs.Limit.{checked}
use Rattle.logic_meaning.specs.Form.{Form, coefficient, without, combine}
use Rattle.logic_meaning.specs.Measured.{stopped, done, Nodes}
use Rattle.logic_meaning.specs.Sorted.{gathered}
use Rattle.logic_meaning.specs.Reduction.{quotient}
use Rattle.logic_meaning.specs.Values.{Value}
use Rattle.logic_meaning.specs.Rows.{Row, one_at}
use Rattle.logic_meaning.specs.Bounds.{terms_at, bound_of}
use Rattle.certificates.specs.Search.{descent, ascent}

-- a * x + b * y + k
abbrev of_both : ℤ → ℤ → ℤ → Form
of_both a b k = record { terms = record { times = a; name = 0 } ∷ record { times = b; name = 1 } ∷ []; constant = k }

-- a * x + k
abbrev of_x : ℤ → ℤ → Form
of_x a k = record { terms = record { times = a; name = 0 } ∷ []; constant = k }

abbrev row : Bool → Form → Form → Row
row strict f m = record { form = f; strict = strict; multipliers = m }

abbrev put : ℕ → ℤ → ℤ → Value
put x n d = record { name = x; at = record { numerator = n; denominator = d } }

-- x >= 1 and x <= 0
abbrev at_least : Row
at_least = row false (of_x (negsuc 0) (pos 1)) (one_at 0)

abbrev at_most : Row
at_most = row false (of_x (pos 1) (pos 0)) (one_at 1)

-- the sum of both, 1 <= 0, is left, and both are kept
both_added : descent 3 (0 ∷ []) (at_least ∷ at_most ∷ []) 2
    ≡ done (row false (record { terms = []; constant = pos 1 }) (of_both (pos 1) (pos 1) (pos 0)) ∷ [], record { name = 0; uppers = at_most ∷ []; lowers = at_least ∷ [] } ∷ [])
unfolding coefficient combine content_of gcd_of euclid gathered quotient
both_added = refl

-- it is one row too many
too_many : descent 2 (0 ∷ []) (at_least ∷ at_most ∷ []) 2 ≡ stopped Nodes
unfolding coefficient combine content_of gcd_of euclid gathered quotient
too_many = refl

-- 2 * x + y = 3 and x >= y, and 3 * y <= 3, which is left of them: y has only an upper bound, so it is 0; then both bounds of x are 3/2
values_found : ascent (record {
  name = 0;
  uppers = row false (of_both (pos 2) (pos 1) (negsuc 2)) (one_at 0) ∷ [];
  lowers = row false (of_both (negsuc 1) (negsuc 0) (pos 3)) (one_at 0) ∷ row false (of_both (negsuc 0) (pos 1) (pos 0)) (one_at 1) ∷ [];
}
    ∷ record { name = 1; uppers = row false (record { terms = record { times = pos 3; name = 1 } ∷ []; constant = negsuc 2 }) (of_both (pos 1) (pos 2) (pos 0)) ∷ []; lowers = [] } ∷ []) (Some [])
    ≡ Some (put 0 (pos 3) (pos 2) ∷ put 1 (pos 0) (pos 1) ∷ [])
unfolding coefficient without gcd_of lcm_of euclid checked inverted sum_step product_step terms_at bound_of
values_found = refl
