-- Rows, and the elimination of a name from them (Fourier 1826, Motzkin 1936).
use Rattle.std.specs.Prelude.{ℕ, suc, ℤ, pos, negsuc, neg_ℤ, int_div, int_lt, Bool, true, false, ◌&&◌, ◌||◌, List, [], ◌∷◌, ◌++◌, map, flat_map, filter, if◌then◌else◌}
use Rattle.std.specs.Ordering.{int_eq}
use Rattle.exact_numbers.specs.Divides.{gcd_of, content_of}
use Rattle.logic_meaning.specs.Form.{Form, coefficients, coefficient, scale, combine}
use Rattle.logic_meaning.specs.Sorted.{gathered}
use Rattle.logic_meaning.specs.Limits.{combination_within}
use Rattle.logic_meaning.specs.Reduction.{quotient}
use Rattle.logic_meaning.specs.Constraints.{Bound, Equal, AtMost, Below, Constraint}

-- A form that is to be at most 0, or below 0 where the row is strict, and the multipliers by which it comes from the constraints:
-- a form whose names are the places of the constraints.
pub record Row : Type 0 where
  pub form : Form
  pub strict : Bool
  pub multipliers : Form

-- ---- the rows of constraints

-- the multiplier 1 at a place, and 0 elsewhere
abbrev pub one_at : ℕ → Form
one_at place = record { terms = record { times = pos 1; name = place } ∷ []; constant = pos 0 }

-- the form of the constraint at a place, as a row
abbrev pub row_at : ℕ → Bool → Form → Row
row_at place strict f = record { form = f; strict = strict; multipliers = one_at place }

-- form and multipliers with the other sign
abbrev pub negated_row : Row → Row
negated_row r = record { form = scale (negsuc 0) r.form; strict = r.strict; multipliers = scale (negsuc 0) r.multipliers }

-- the rows of one constraint: an equation has a second one, with the other sign
abbrev pub bound_rows : ℕ → Bound → Form → List Row
bound_rows place Equal f = row_at place false f ∷ negated_row (row_at place false f) ∷ []
bound_rows place AtMost f = row_at place false f ∷ []
bound_rows place Below f = row_at place true f ∷ []

-- the rows of constraints, of which the first has this place
abbrev pub rows_from : ℕ → List Constraint → List Row
rows_from place [] = []
rows_from place (c ∷ cs) = bound_rows place c.bound (gathered c.form) ++ rows_from (suc place) cs

-- ---- one name eliminated

-- the rows without the name, those that bound it above, and those that bound it below
abbrev pub absent : ℕ → List Row → List Row
absent x rows = filter (λ (r : Row). int_eq (coefficient x r.form) (pos 0)) rows

-- the rows that bound the name above: its coefficient is positive
abbrev pub uppers : ℕ → List Row → List Row
uppers x rows = filter (λ (r : Row). int_lt (pos 0) (coefficient x r.form)) rows

-- the rows that bound the name below: its coefficient is negative
abbrev pub lowers : ℕ → List Row → List Row
lowers x rows = filter (λ (r : Row). int_lt (coefficient x r.form) (pos 0)) rows

-- a row that bounds the name above, and one that bounds it below
pub record Pair : Type 0 where
  pub upper : Row
  pub lower : Row

-- each row that bounds the name above with each that bounds it below
abbrev pub pairs : ℕ → List Row → List Pair
pairs x rows = flat_map (λ (p : Row). map (λ (n : Row). record { upper = p; lower = n }) (lowers x rows)) (uppers x rows)

-- the coefficients of the name in a pair, the lower one with the other sign
abbrev pub above : ℕ → Pair → ℤ
above x pair = coefficient x pair.upper.form

-- the coefficient of the name in the lower row, with the other sign, so that it is positive
abbrev pub below : ℕ → Pair → ℤ
below x pair = neg_ℤ (coefficient x pair.lower.form)

-- the numbers by which the two rows are multiplied, so that the name cancels
abbrev pub upper_factor : ℕ → Pair → ℤ
upper_factor x pair = int_div (below x pair) (gcd_of (above x pair) (below x pair))

-- the number by which the lower row is multiplied: the upper coefficient over their greatest common divisor
abbrev pub lower_factor : ℕ → Pair → ℤ
lower_factor x pair = int_div (above x pair) (gcd_of (above x pair) (below x pair))

-- the two rows multiplied and added, strict where one of them is
abbrev pub joined : ℕ → Pair → Row
joined x pair = record {
  form = gathered (combine (upper_factor x pair) pair.upper.form (lower_factor x pair) pair.lower.form);
  strict = pair.upper.strict || pair.lower.strict;
  multipliers = gathered (combine (upper_factor x pair) pair.upper.multipliers (lower_factor x pair) pair.lower.multipliers);
}

-- no product and no sum of these passes the limit of exact_numbers
abbrev pub pair_within : ℕ → Pair → Bool
pair_within x pair =
    combination_within (upper_factor x pair) pair.upper.form (lower_factor x pair) pair.lower.form
    && combination_within (upper_factor x pair) pair.upper.multipliers (lower_factor x pair) pair.lower.multipliers

-- the constant and the coefficients of a form
abbrev pub numbers_of : Form → List ℤ
numbers_of f = f.constant ∷ coefficients f.terms

-- the greatest common divisor of all numbers of the row
abbrev pub row_content : Row → ℤ
row_content r = content_of (numbers_of r.form ++ numbers_of r.multipliers)

-- each number of the row divided
abbrev pub row_quotient : Row → ℤ → Row
row_quotient r d = record { form = quotient r.form d; strict = r.strict; multipliers = quotient r.multipliers d }

-- divided by the greatest common divisor of its numbers, unless all are 0
abbrev pub lowest_row : Row → Row
lowest_row r = if int_eq (row_content r) (pos 0) then r else row_quotient r (row_content r)

-- the new row of a pair
abbrev pub without_name : ℕ → Pair → Row
without_name x pair = lowest_row (joined x pair)
