-- What an assertion becomes, with the id that the maker keeps, or why it becomes nothing.
use Rattle.std.specs.Prelude.{◌≡◌, ℕ, List, [], true, Option, Some, None, ⊤}
use Rattle.logic_meaning.specs.Context.{Context}
use Rattle.logic_meaning.specs.Tree.{Tree}
use Rattle.language_meaning.specs.Trees.{FormulaTree}
use Rattle.resolved_formulas.specs.Accepted.{IsAccepted}
use Rattle.formula_tree.specs.Makers.{IsMade}
use Rattle.language_meaning.specs.Resolving.{formula_variables, resolve}
use Rattle.language_meaning.specs.declared.static_error.StaticError.{StaticError}
use Rattle.language_meaning.specs.declared.static_error.StaticError.TheVariants as static
use Rattle.smt_language.specs.Trees.{ExpressionTree}
use Rattle.smt_language.specs.Levels.{levels}
use Rattle.smt_meaning.specs.LevelsBelow.{AreLevelsBelow}
use Rattle.smt_resolver.specs.declared.error.AssertError.{AssertError}
use Rattle.smt_resolver.specs.declared.error.AssertError.TheVariants as error
use Rattle.smt_language.specs.Asserted.{MeansNoFormula, MeansTooMany, MeansWithin, MeetsFirst, is_undeclared}

-- However many levels are numbered, no cause applies to the formula, and the id stands for its resolved form.
pub record IsAssertedAs {Id : Type 0} (c : Context) (limit : ℕ) (declared : List (List ℕ)) (is_id : Id → Type 0) (tree : Id → Tree) (e : ExpressionTree) (f : FormulaTree) (id : Id) : Type 0 where
  pub formula : MeansWithin c limit declared e f
  pub accepted : (count : ℕ) → AreLevelsBelow count (formula_variables f) → IsAccepted c [] (levels count) f
  pub made : (count : ℕ) → AreLevelsBelow count (formula_variables f) → IsMade is_id tree id (resolve c [] (levels count) f)

abbrev pub IsAsserted : {Id : Type 0} → Context → ℕ → List (List ℕ) → (Id → Type 0) → (Id → Tree) → ExpressionTree → Id → Type 0
IsAsserted c limit declared is_id tree e id = (f : FormulaTree) × IsAssertedAs c limit declared is_id tree e f id

-- It is refused for this, and for nothing that is looked for before. Want of memory may come at any time.
abbrev pub IsRefusedFor : Context → ℕ → List (List ℕ) → ExpressionTree → AssertError → Type 0
IsRefusedFor c limit declared e error.Undeclared = is_undeclared declared e ≡ true
IsRefusedFor c limit declared e error.Sort = MeansNoFormula c declared e
IsRefusedFor c limit declared e error.Nodes = MeansTooMany c limit declared e
IsRefusedFor c limit declared e error.Nonlinear = MeetsFirst c limit declared e static.Nonlinear
IsRefusedFor c limit declared e error.Division = MeetsFirst c limit declared e static.Division
IsRefusedFor c limit declared e error.Depth = MeetsFirst c limit declared e static.Depth
IsRefusedFor c limit declared e error.Overflow = MeetsFirst c limit declared e static.Overflow
IsRefusedFor c limit declared e error.Memory = ⊤

-- the word for the cause; the other causes stand in no formula that an assertion means
abbrev pub told_as : StaticError → Option AssertError
told_as static.Unbound = None
told_as static.FormulaAsTerm = None
told_as static.Nonlinear = Some error.Nonlinear
told_as static.Division = Some error.Division
told_as static.CongruenceContext = None
told_as static.Modulus = None
told_as static.Depth = Some error.Depth
told_as static.Overflow = Some error.Overflow
told_as static.Memory = Some error.Memory
