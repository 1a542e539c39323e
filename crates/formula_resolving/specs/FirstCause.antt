-- Which cause a formula is refused for.
use Rattle.std.specs.Prelude.{ℕ, List}
use Rattle.logic_meaning.specs.Context.{Context}
use Rattle.language_meaning.specs.Trees.{FormulaTree}
use Rattle.language_meaning.specs.Resolving.{BoundTrees}
use Rattle.language_meaning.specs.declared.static_error.StaticError.{StaticError}
use Rattle.language_meaning.specs.declared.static_error.StaticError.TheVariants.{Memory}
use Rattle.language_meaning.specs.Refusals.{IsFirst}

-- the cause applies, and no earlier one does; want of memory says nothing
abbrev pub IsFirstCause : Context → BoundTrees → List (List ℕ) → FormulaTree → StaticError → Type 0
IsFirstCause c bound names f Memory = Unit {0}
IsFirstCause c bound names f e = IsFirst c bound names f e
