-- The search in two passes: the descent eliminates the names and keeps the rows with each, and the ascent gives them values.
use Rattle.std.specs.Prelude.{ℕ, pos, ◌<ℤ◌, List, [], ◌∷◌, ◌++◌, map, flat_map, Option, Some, nat_eq, if◌then◌else◌}
use Rattle.exact_numbers.specs.Frac.{Frac, whole_frac, product_step, sum_step, ◌>>=◌}
use Rattle.logic_meaning.specs.Form.{Term, coefficient}
use Rattle.logic_meaning.specs.Measured.{Outcome, done, then_of}
use Rattle.logic_meaning.specs.Some.{EachOf}
use Rattle.logic_meaning.specs.Values.{Value}
use Rattle.logic_meaning.specs.Rows.{Row, Pair, uppers, lowers}
use Rattle.logic_meaning.specs.Bounds.{value_among, bounds_of, greatest, least, between}
use Rattle.logic_meaning.specs.Search.{next_rows}

-- a name, and the rows that bound it above and below before its step
pub record Kept : Type 0 where
  pub name : ℕ
  pub uppers : List Row
  pub lowers : List Row

abbrev pub kept : ℕ → List Row → Kept
kept x rows = record { name = x; uppers = uppers x rows; lowers = lowers x rows }

-- the rows do so
pub record AreBounds (k : Kept) : Type 0 where
  pub above : EachOf (λ (r : Row). pos 0 <ℤ coefficient k.name r.form) k.uppers
  pub below : EachOf (λ (r : Row). coefficient k.name r.form <ℤ pos 0) k.lowers

-- ---- down

-- an upper row with each lower one
abbrev pub pairs_with : List Row → Row → List Pair
pairs_with lowers p = map (λ (n : Row). record { upper = p; lower = n }) lowers

-- each upper row with each lower one
abbrev pub all_pairs : Kept → List Pair
all_pairs k = flat_map (pairs_with k.lowers) k.uppers

-- rows before those of a computation
abbrev pub after : List Row → Outcome (List Row × ℕ) → Outcome (List Row × ℕ)
after rows o = then_of o (λ r. done (rows ++ r.0, r.1))

-- the rows without the names, and what is kept of each step
abbrev pub descent : ℕ → List ℕ → List Row → ℕ → Outcome (List Row × List Kept)
descent limit [] rows cost = done (rows, [])
descent limit (x ∷ xs) rows cost = then_of (next_rows limit x rows cost) (λ n. then_of (descent limit xs n.0 n.1) (λ r. done (r.0, kept x rows ∷ r.1)))

-- ---- up

-- the sum with a term at its value, unless it is a term of x
abbrev pub plus_term : ℕ → List Value → Frac → Term → Option Frac
plus_term x vs sum t = if nat_eq x t.name then Some sum else product_step (whole_frac t.times) (value_among vs t.name) >>= λ product. sum_step sum product

-- the value of the name between its bounds at the values of the names after it
abbrev pub kept_value : Kept → List Value → Option Frac
kept_value k vs = bounds_of k.name vs k.lowers >>= λ low. bounds_of k.name vs k.uppers >>= λ high. between (greatest low) (least high)

-- it before those values
abbrev pub with_kept : Kept → List Value → Option (List Value)
with_kept k vs = kept_value k vs >>= λ a. Some (record { name = k.name; at = a } ∷ vs)

-- the values of all names, from those of the names after them; that of the last name is found first
abbrev pub ascent : List Kept → Option (List Value) → Option (List Value)
ascent [] o = o
ascent (k ∷ ks) o = ascent ks o >>= with_kept k
