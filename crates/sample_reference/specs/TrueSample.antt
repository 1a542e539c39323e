-- What a sample owes.
use Rattle.std.specs.Prelude.{◌≡◌, ℕ, List, Option, Some, None}
use Rattle.logic_meaning.specs.Context.{Context}
use Rattle.logic_meaning.specs.Point.{Point}
use Rattle.logic_meaning.specs.Some.{EachOf}
use Rattle.logic_meaning.specs.Tree.{Tree, TrueAt}
use Rattle.logic_meaning.specs.Measured.{Outcome, then_of}
use Rattle.logic_meaning.specs.Reference.{normal_tree, leading_branches}
use Rattle.logic_meaning.specs.Cases.{case_sign, case_formula, case_matrix, case_names}
use Rattle.logic_meaning.specs.Sample.{first_true}
use Rattle.logic_meaning.specs.Values.{Value, value_names, with_values, IsValue}
use Rattle.logic_meaning.specs.ReferenceSample.{sampled}

module _ (c : Context) (limit : ℕ) where
  -- the sample of a formula without free names, and the cost
  abbrev pub closed_sample : Tree → Outcome (Option (List Value) × ℕ)
  closed_sample f = then_of (leading_branches c limit (case_sign (normal_tree f)) f 0) (λ r. sampled c r.1 (first_true r.0))

-- The formula whose cases are asked is true at the point, the values are those of the leading names, in their order and in lowest
-- terms, whole over the integers, and the matrix is true at the point with them.
pub record AreTrueValues (c : Context) (f : Tree) (p : Point ℕ) (values : List Value) : Type 0 where
  pub asked : TrueAt c (case_formula f) p
  pub names : value_names values ≡ case_names f
  pub each : EachOf (IsValue c) values
  pub matrix : TrueAt c (case_matrix f) (with_values p values)

-- there are none exactly where that formula is false
abbrev pub IsTrueSample : Context → Tree → Point ℕ → Option (List Value) → Type 0
IsTrueSample c f p (Some values) = AreTrueValues c f p values
IsTrueSample c f p None = ¬ (TrueAt c (case_formula f) p)
