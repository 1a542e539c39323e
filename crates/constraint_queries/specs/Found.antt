-- What is found of the target of a resolved problem.
use Rattle.std.specs.Prelude.{◌≡◌, ◌⊎◌, ℕ, List}
use Rattle.logic_meaning.specs.Context.{Fields}
use Rattle.logic_meaning.specs.Every.{Every}
use Rattle.logic_meaning.specs.Shape.{IsQuantifierFree}
use Rattle.logic_meaning.specs.Plain.{IsPlain}
use Rattle.logic_meaning.specs.Tree.{Tree}
use Rattle.formula_laws.specs.Equivalence.{InContext, Equivalent}
use Rattle.logic_meaning.specs.Reference.{reference}
use Rattle.exact_numbers.specs.Frac.{Frac}
use Rattle.logic_meaning.specs.ReferenceSample.{reference_sample}
use Rattle.linear_theory.specs.WeakTargets.{IsWeak, exs}
use Rattle.logic_meaning.specs.LeastFraction.{IsLeastFraction}
use Rattle.reference_engine.specs.declared.measured.Measured.{Measured}
use Rattle.reference_engine.specs.Told.{StopsWith}
use Rattle.formula_store.specs.declared.id.FormulaId.{FormulaId}
use Rattle.formula_store.specs.Nodes.{tree, IsId}
use Rattle.program_meaning.specs.declared.line.StatementError.{StatementError}
use Rattle.program_meaning.specs.declared.line.StatementError.TheVariants as error
use Rattle.session_state.specs.declared.state.SessionState.{SessionState}
use Rattle.form_commands.specs.Refusals.{measured_refusal}
use Rattle.least_search.specs.Found.{at_value}

-- the problem has names to be eliminated, and behind them a conjunction of weak constraints
pub record IsWeakProblem (problem : Tree) : Type 0 where
  pub names : List ℕ
  pub matrix : Tree
  pub same : problem ≡ exs names matrix
  pub is_plain : IsPlain matrix
  pub weak : Every IsWeak matrix
  pub in_fields : InContext Fields matrix

-- a formula without quantifiers that says the same
pub record IsConditionOf (problem : Tree) (after : SessionState) (condition : FormulaId) : Type 0 where
  pub is : IsId after.store condition
  pub free : IsQuantifierFree (tree after.store condition)
  pub in_fields : InContext Fields (tree after.store condition)
  pub equivalent : Equivalent Fields problem (tree after.store condition)

-- why there is none
abbrev pub ConditionStop : ℕ → Tree → StatementError → Type 0
ConditionStop limit problem e = (e ≡ error.Memory) ⊎ ((d : Measured) × (e ≡ measured_refusal d) × StopsWith d (reference Fields limit problem))

-- why nothing is found: there is no condition, or no sample at the least value
abbrev pub FoundStop : ℕ → ℕ → Tree → StatementError → Type 0
FoundStop limit z problem e = ConditionStop limit problem e
    ⊎ ((least : Frac) × IsLeastFraction z problem least × (d : Measured) × (e ≡ measured_refusal d) × StopsWith d (reference_sample Fields limit (at_value z least) problem))
