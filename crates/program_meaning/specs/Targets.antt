-- The least value of a target under weak constraints as they are written, and a point that attains it.
use Rattle.std.specs.Prelude.{◌≡◌, ◌⊎◌, ℕ, List, [], ◌++◌, codes, map, unsigned_abs, nat_eq}
use Rattle.std.specs.List.{fold}
use Rattle.exact_numbers.specs.Frac.{Frac, SameValue}
use Rattle.logic_meaning.specs.Context.{Fields}
use Rattle.logic_meaning.specs.Formula.{One, And, none, also}
use Rattle.logic_meaning.specs.Measured.{Stop, stopped}
use Rattle.logic_meaning.specs.Point.{Point, move}
use Rattle.logic_meaning.specs.Some.{EachOf}
use Rattle.logic_meaning.specs.Tree.{Tree}
use Rattle.logic_meaning.specs.declared.quantifier.Quantifier.TheVariants.{Exists}
use Rattle.language_meaning.specs.declared.tree.Relation.TheVariants.{Equal}
use Rattle.language_meaning.specs.Trees.{TermTree, Named, Compare, FormulaTree, FormulaTrees}
use Rattle.language_meaning.specs.Value.{value}
use Rattle.language_meaning.specs.QuantifiedNames.{quantified_names}
use Rattle.logic_meaning.specs.Names.{with_name, place}
use Rattle.language_meaning.specs.Resolving.{variables_of, all_variables, resolve}
use Rattle.logic_meaning.specs.Reference.{reference}
use Rattle.logic_meaning.specs.ReferenceSample.{reference_sample}
use Rattle.logic_meaning.specs.Values.{Value, value_names, with_values, IsValue, origin}
use Rattle.logic_meaning.specs.Target.{IsInfeasible, IsUnbounded}
use Rattle.logic_meaning.specs.LeastFraction.{IsLeastFraction}
use Rattle.logic_meaning.specs.PointTexts.{fraction_text, point_text}
use Rattle.program_meaning.specs.Assumptions.{AllTrueAt}
use Rattle.program_meaning.specs.Places.{by_names}
use Rattle.program_meaning.specs.State.{State, known}

-- ---- the problem

-- the name of the target's value, which no text spells
abbrev pub target_name : List ℕ
target_name = codes "?"

-- the names of the constraints and of the target, in the order of their first places in the text
abbrev pub problem_names : FormulaTrees → TermTree → List (List ℕ)
problem_names written target = fold with_name [] (all_variables written ++ variables_of target)

-- the formula and the others
abbrev pub together : FormulaTree → FormulaTrees → FormulaTree
together f none = f
together f (also g gs) = And (also f (also g gs))

-- some values of the names meet the constraints and give the target this value
abbrev pub problem_of : FormulaTrees → TermTree → FormulaTree
problem_of written target = quantified_names Exists (problem_names written target) (together (One (Compare Equal (Named target_name) target)) written)

-- the problem, resolved
abbrev pub resolved_problem : State → FormulaTrees → TermTree → Tree
resolved_problem s written target = resolve s.context (known s) s.names (problem_of written target)

-- the number of the target's name
abbrev pub target_number : State → ℕ
target_number s = place s.names target_name

-- ---- the answer

-- nothing meets the constraints; the target has a smaller value below every number; or this is its least value, with values of the names that attain it
pub data TargetAnswer : Type 0 where
  Infeasible : TargetAnswer
  Unbounded : TargetAnswer
  Attained : Frac → List Value → TargetAnswer

-- The fraction, in lowest terms, is the least value. With the values of all names, in the order of the text and in lowest terms, the constraints are met as they are
-- written, and the target has it.
pub record IsAttained (s : State) (written : FormulaTrees) (target : TermTree) (least : Frac) (values : List Value) : Type 0 where
  pub is_least : IsLeastFraction (target_number s) (resolved_problem s written target) least
  pub in_order : value_names values ≡ map (place s.names) (problem_names written target)
  pub each : EachOf (IsValue Fields) values
  pub meets : AllTrueAt s written (by_names s.names (with_values origin values))
  pub attains : SameValue (value target (by_names s.names (with_values origin values))) least

-- what the answer says
abbrev pub SaysLeast : State → FormulaTrees → TermTree → TargetAnswer → Type 0
SaysLeast s written target Infeasible = IsInfeasible (target_number s) (resolved_problem s written target) origin
SaysLeast s written target Unbounded = IsUnbounded (target_number s) (resolved_problem s written target) origin
SaysLeast s written target (Attained least values) = IsAttained s written target least values

-- the line of an answer
abbrev pub target_text : List (List ℕ) → TargetAnswer → List ℕ
target_text names Infeasible = codes "infeasible"
target_text names Unbounded = codes "unbounded"
target_text names (Attained least values) = codes "{" ++ fraction_text least ++ codes "," ++ point_text names values ++ codes "}"

-- ---- where there is none

-- the point at which the target's name has the value, and all others 0
abbrev pub at_target : State → Frac → Point ℕ
at_target s v = move nat_eq origin (target_number s) v.numerator (unsigned_abs v.denominator)

-- the reference elimination stops on the problem, or the sample of the problem at the least value does
abbrev pub TargetStops : FormulaTrees → TermTree → Stop → State → ℕ → Type 0
TargetStops written target e s limit = (reference s.context limit (resolved_problem s written target) ≡ stopped e)
    ⊎ ((least : Frac) × IsLeastFraction (target_number s) (resolved_problem s written target) least × (reference_sample s.context limit (at_target s least) (resolved_problem s written target) ≡ stopped e))
