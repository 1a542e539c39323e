-- What is seen of a script that is being answered.
use Rattle.std.specs.Prelude.{◌≡◌, ℕ, List, Option, length}
use Rattle.normal_atoms.specs.declared.atoms.Context.{Context}
use Rattle.formula_tree.specs.declared.shape.Shape.{Shape}
use Rattle.formula_store.specs.declared.id.FormulaId.{FormulaId}
use Rattle.engine_answers.specs.declared.limits.Limits.{Limits}
use Rattle.smtlib_front.specs.declared.kept.Kept.{Kept}
use Rattle.smtlib_front.specs.declared.kept.Kept.TheVariants.{Nothing, TooLarge, Values}

-- its limits, the formulas of its store, the theory of its logic, the declared names, the ids of what is asserted, and the values that are kept
pub record Seen : Type 0 where
  pub limits : Limits
  pub formulas : List (Shape FormulaId)
  pub logic : Option Context
  pub declared : List (List ℕ)
  pub asserted : List FormulaId
  pub kept : Kept

-- there is a value for each of so many names, where there are values
abbrev pub HasValueForEach : ℕ → Kept → Type 0
HasValueForEach count Nothing = Unit {0}
HasValueForEach count TooLarge = Unit {0}
HasValueForEach count (Values vs) = length vs.items ≡ count
