-- The sample of a formula at a point, in a state in which the variables of the command have their numbers.
use Rattle.std.specs.Prelude.{◌≡◌, ℕ, List, Option, Some, None, codes}
use Rattle.exact_numbers.specs.Limit.{InLimit}
use Rattle.logic_meaning.specs.Some.{EachOf}
use Rattle.logic_meaning.specs.Tree.{TrueAt}
use Rattle.logic_meaning.specs.Cases.{case_sign, case_matrix, case_names}
use Rattle.logic_meaning.specs.Values.{Value, value_names, with_values, IsValue}
use Rattle.logic_meaning.specs.PointTexts.{point_text}
use Rattle.language_meaning.specs.declared.entries.PointEntry.{PointEntry}
use Rattle.language_meaning.specs.Point.{IsPointOf}
use Rattle.language_meaning.specs.Trees.{FormulaTree}
use Rattle.language_meaning.specs.Value as written
use Rattle.language_meaning.specs.Resolving.{resolve, at_names, bound_truth}
use Rattle.program_meaning.specs.State.{State, known}
use Rattle.program_meaning.specs.Cases.{Turned}
use Rattle.program_meaning.specs.FormulaAnswers.{negation_normal_of}

-- the formula is true at the point as it is written, or for a leading block of all it is not
abbrev pub HasSample : State → FormulaTree → written.NamedPoint → Type 0
HasSample s f p = Turned (case_sign (negation_normal_of s f)) (written.TrueAt (bound_truth s.context (known s) s.names) s.context f p)

-- numerator and denominator of the value are within the limit
abbrev pub IsValueInLimit : Value → Type 0
IsValueInLimit v = InLimit v.at.numerator × InLimit v.at.denominator

-- The values are for the names of the leading block, each once and in its order. They are in lowest terms, over the integers whole, and within the limit. With
-- them, what stands behind the block, or for a block of all its negation, is true at the point.
pub record AreSampleValues (s : State) (f : FormulaTree) (p : written.NamedPoint) (values : List Value) : Type 0 where
  pub there : HasSample s f p
  pub in_order : value_names values ≡ case_names (resolve s.context (known s) s.names f)
  pub each : EachOf (IsValue s.context) values
  pub numbers : EachOf IsValueInLimit values
  pub exact : TrueAt s.context (case_matrix (resolve s.context (known s) s.names f)) (with_values (at_names s.names p) values)

-- such values, or none where there are none
abbrev pub IsSample : State → FormulaTree → written.NamedPoint → Option (List Value) → Type 0
IsSample s f p (Some values) = AreSampleValues s f p values
IsSample s f p None = ¬ (HasSample s f p)

-- the same at the point that the entries mean
pub record IsSampleAnswer (s : State) (f : FormulaTree) (es : List PointEntry) (sample : Option (List Value)) : Type 0 where
  pub point : written.NamedPoint
  pub meant : IsPointOf es point
  pub sampled : IsSample s f point sample

-- the line of a sample
abbrev pub sample_text : List (List ℕ) → Option (List Value) → List ℕ
sample_text names (Some values) = point_text names values
sample_text names None = codes "none"
