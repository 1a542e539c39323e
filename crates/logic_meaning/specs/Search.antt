-- The reference search: a point that meets all of some constraints, or multipliers that show that there is none. It counts the rows that it makes, and stops
-- with `Nodes` where their number would pass a limit, or with `Overflow` where a number passes that of exact_numbers, whichever comes first.
use Rattle.std.specs.Prelude.{ℕ, suc, ℤ, pos, int_lt, Bool, ◌&&◌, ◌||◌, List, [], ◌∷◌, ◌++◌, length, Option, Some, None, if◌then◌else◌}
use Rattle.std.specs.Ordering.{int_eq}
use Rattle.exact_numbers.specs.Frac.{Frac}
use Rattle.logic_meaning.specs.Form.{Form, coefficient}
use Rattle.logic_meaning.specs.Measured.{Outcome, stopped, done, Overflow, then_of, Counted, ◌>>=◌, give, pay, within}
use Rattle.logic_meaning.specs.Values.{Value}
use Rattle.logic_meaning.specs.Constraints.{Constraint}
use Rattle.logic_meaning.specs.Rows.{Row, rows_from, absent, Pair, pairs, pair_within, without_name}
use Rattle.logic_meaning.specs.Bounds.{found_value}

-- what the search answers with: a point that meets all constraints, or multipliers by which none does
pub data Certificate : Type 0 where
  -- values of the names at which all constraints are met
  At : List Value → Certificate
  -- a multiplier of each constraint
  Farkas : List ℤ → Certificate

-- ---- down: the names are eliminated

module _ (limit : ℕ) where
  -- a new row costs 1, and is paid for before its numbers are formed
  abbrev pub new_row : ℕ → Pair → Counted Row
  new_row x pair = do
    _ ← pay limit 1
    _ ← within (pair_within x pair)
    give (without_name x pair)

  -- the new rows of all pairs, one after the other
  abbrev pub new_rows : ℕ → List Pair → Counted (List Row)
  new_rows x [] = give []
  new_rows x (pair ∷ rest) = do
    row ← new_row x pair
    rows ← new_rows x rest
    give (row ∷ rows)

  -- the rows after the step for x
  abbrev pub next_rows : ℕ → List Row → Counted (List Row)
  next_rows x rows = do
    new ← new_rows x (pairs x rows)
    give (absent x rows ++ new)

-- ---- without names

-- the constant of the row is too large
abbrev pub is_false : Row → Bool
is_false r = int_lt (pos 0) r.form.constant || (r.strict && int_eq r.form.constant (pos 0))

-- the first of the rows that is false, if there is one
abbrev pub first_false : List Row → Option Row
first_false [] = None
first_false (r ∷ rows) = if is_false r then Some r else first_false rows

-- a form over places as a list, for constraints of which the first has this place
abbrev pub multipliers_from : ℕ → List Constraint → Form → List ℤ
multipliers_from place [] m = []
multipliers_from place (c ∷ cs) m = coefficient place m ∷ multipliers_from (suc place) cs m

-- the multipliers of the false row, if there is one
abbrev pub last_answer : List Constraint → Option Row → Certificate
last_answer cs None = At []
last_answer cs (Some r) = Farkas (multipliers_from 0 cs r.multipliers)

-- ---- up: the names get values

-- the value of x before those of the names after it
abbrev pub put_first : ℕ → Option Frac → List Value → Outcome Certificate
put_first x None vs = stopped Overflow
put_first x (Some a) vs = done (At (record { name = x; at = a } ∷ vs))

-- rows: those before the step for x
abbrev pub extended : ℕ → List Row → Certificate → Outcome Certificate
extended x rows (At vs) = put_first x (found_value x rows vs) vs
extended x rows (Farkas ms) = done (Farkas ms)

-- ---- the search

module _ (limit : ℕ) (cs : List Constraint) where
  -- from the rows before the step for the first of the names, and the cost so far
  abbrev pub search_from : List ℕ → List Row → ℕ → Outcome Certificate
  search_from [] rows cost = done (last_answer cs (first_false rows))
  search_from (x ∷ xs) rows cost = then_of (next_rows limit x rows cost) (λ next. then_of (search_from xs next.0 next.1) (extended x rows))

-- names: those that are eliminated, in this order; the cost begins as the number of rows
abbrev pub search : ℕ → List ℕ → List Constraint → Outcome Certificate
search limit names cs = search_from limit cs names (rows_from 0 cs) (length (rows_from 0 cs))
