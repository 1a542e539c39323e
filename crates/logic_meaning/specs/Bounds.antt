-- The bounds that rows give a name where the names after it have values, and the value that it takes between them. Fractions are formed by the fraction rule,
-- and None says that a number passes the limit of exact_numbers.
use Rattle.std.specs.Prelude.{ℕ, pos, neg_ℤ, List, [], ◌∷◌, map, Option, Some, None, option_map, nat_eq, if◌then◌else◌}
use Rattle.exact_numbers.specs.Frac.{Frac, whole_frac, negated, inverted, sum_step, product_step, ◌>>=◌}
use Rattle.logic_meaning.specs.Form.{Form, Term, coefficient, without}
use Rattle.logic_meaning.specs.Values.{Value}
use Rattle.logic_meaning.specs.Calculated.{least_with, just_past, below_all}
use Rattle.logic_meaning.specs.Rows.{Row, uppers, lowers}

-- the value of a name among those found; 0 where it has none
abbrev pub value_among : List Value → ℕ → Frac
value_among [] x = whole_frac (pos 0)
value_among (v ∷ vs) x = if nat_eq v.name x then v.at else value_among vs x

-- the sum so far and the terms at the values, one after the other
unfoldable pub terms_at : List Value → Frac → List Term → Option Frac
terms_at vs sum [] = Some sum
terms_at vs sum (t ∷ ts) = product_step (whole_frac t.times) (value_among vs t.name) >>= λ product. sum_step sum product >>= λ next. terms_at vs next ts

-- the number of x at which the form is 0: the sum of the other terms, from 0 on, and the constant last, divided by the coefficient of x with the other sign
unfoldable pub bound_of : ℕ → List Value → Form → Option Frac
bound_of x vs f =
    terms_at vs (whole_frac (pos 0)) (without x f).terms >>= λ terms. sum_step terms (whole_frac f.constant) >>= λ sum. product_step sum (inverted (whole_frac (neg_ℤ (coefficient x f))))

-- those of each row
abbrev pub bounds_of : ℕ → List Value → List Row → Option (List Frac)
bounds_of x vs [] = Some []
bounds_of x vs (r ∷ rows) = bound_of x vs r.form >>= λ b. bounds_of x vs rows >>= λ bs. Some (b ∷ bs)

-- the least of some numbers
abbrev pub least : List Frac → Option Frac
least values = least_with None values

-- the greatest, which is the least among the negatives, negated
abbrev pub greatest : List Frac → Option Frac
greatest values = option_map negated (least (map negated values))

-- half the sum of the greatest lower and the least upper bound; where one is missing one more than the lower or one less than the upper; where both are 0
abbrev pub between : Option Frac → Option Frac → Option Frac
between (Some lower) upper = just_past lower upper
between None upper = below_all upper

-- the value of x, from the values of the names after it
abbrev pub found_value : ℕ → List Row → List Value → Option Frac
found_value x rows vs = bounds_of x vs (lowers x rows) >>= λ low. bounds_of x vs (uppers x rows) >>= λ high. between (greatest low) (least high)
