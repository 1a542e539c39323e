-- A formula that no cause of a refusal in reading applies to.
use Rattle.std.specs.Prelude.{ℕ, List}
use Rattle.logic_meaning.specs.Context.{Context}
use Rattle.language_meaning.specs.Trees.{FormulaTree}
use Rattle.language_meaning.specs.Resolving.{BoundTrees}
use Rattle.logic_meaning.specs.Names.{place}
use Rattle.language_meaning.specs.NamesAfter.{names_after}
use Rattle.language_meaning.specs.Causes.{IsUnbound, NamesFormulaAsTerm, IsNonlinear, Divides, CongruenceInFields, IsBadModulus, IsTooDeep, OverflowsInReading}

-- no cause applies
pub record IsAccepted (c : Context) (bound : BoundTrees) (names : List (List ℕ)) (f : FormulaTree) : Type 0 where
  pub bound_names : ¬ (IsUnbound bound f)
  pub variables : ¬ (NamesFormulaAsTerm bound f)
  pub linear : ¬ (IsNonlinear c (place (names_after names f)) f)
  pub undivided : ¬ (Divides c (place (names_after names f)) f)
  pub congruences : ¬ (CongruenceInFields c f)
  pub moduli : ¬ (IsBadModulus c (place (names_after names f)) f)
  pub flat : ¬ (IsTooDeep bound f)
  pub within : ¬ (OverflowsInReading c bound (place (names_after names f)) f)
