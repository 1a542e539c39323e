-- Formulas that begin with `ex` of the first names, and values of these names.
use Rattle.std.specs.Prelude.{◌≡◌, ℕ, zero, suc, List, [], ◌∷◌, length, map, take}
use Rattle.exact_numbers.specs.Frac.{Frac}
use Rattle.logic_meaning.specs.Context.{Context}
use Rattle.logic_meaning.specs.Formula.{Ex}
use Rattle.logic_meaning.specs.Some.{EachOf}
use Rattle.logic_meaning.specs.Tree.{Tree, TrueAt}
use Rattle.logic_meaning.specs.Values.{Value, with_values, IsValue, origin}

-- so many names, from n on, under `ex` before the formula, the first one outermost
abbrev pub under_names : ℕ → ℕ → Tree → Tree
under_names n zero f = f
under_names n (suc count) f = Ex n (under_names (suc n) count f)

-- the values with their names, which are numbered from n on
abbrev pub named_from : ℕ → List Frac → List Value
named_from n [] = []
named_from n (v ∷ vs) = record { name = n; at = v } ∷ named_from (suc n) vs

-- Values of the theory in lowest terms, one for each of the first names, with which the formula is true where each other name is 0.
pub record AreWitnesses (c : Context) (count : ℕ) (f : Tree) (vs : List Frac) : Type 0 where
  pub one_each : length vs ≡ count
  pub each : EachOf (IsValue c) (named_from 0 vs)
  pub true_with : TrueAt c f (with_values origin (named_from 0 vs))

-- the first so many of the values, without their names
abbrev pub first_values : ℕ → List Value → List Frac
first_values count values = map (λ (v : Value). v.at) (take count values)
