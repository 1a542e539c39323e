-- What the commands of a script in SMT-LIB share.
use Rattle.std.specs.Prelude.{ℕ, List, [], Bool, Option, None, is_some, position}
use Rattle.exact_numbers.specs.Frac.{Frac}
use Rattle.logic_meaning.specs.Context.{Context, Fields, Integers}
use Rattle.language_meaning.specs.Trees.{FormulaTree}
use Rattle.language_meaning.specs.Value.{same_name}
use Rattle.smt_language.specs.declared.command.Sort.{Sort}
use Rattle.smt_language.specs.declared.command.Sort.TheVariants as sort

-- What the last `check-sat` left: nothing where there was none, where it did not say sat, or where a command after it changed the state;
-- that it said sat and has no values within the limit; or the values of the declared names, in their order.
pub data Kept : Type 0 where
  Nothing : Kept
  TooLarge : Kept
  Values : List Frac → Kept

-- what one command leaves to the next: the theory that its logic chose, the declared names, the formulas that are asserted, and the values
pub record State : Type 0 where
  pub logic : Option Context
  pub declared : List (List ℕ)
  pub asserted : List FormulaTree
  pub kept : Kept

-- a script begins without a logic
abbrev pub first_state : State
first_state = record { logic = None; declared = []; asserted = []; kept = Nothing }

-- the theory of a logic, by its sort
abbrev pub theory_of : Sort → Context
theory_of sort.Real = Fields
theory_of sort.Int = Integers

-- the name is declared
abbrev pub is_declared : State → List ℕ → Bool
is_declared s x = is_some (position (same_name x) s.declared)
