-- Expressions whose numbers are as a script can write them.
use Rattle.std.specs.Prelude.{pos, ◌<ℤ◌}
use Rattle.exact_numbers.specs.Limit.{InLimit}
use Rattle.language_meaning.specs.declared.tree.Literal.{Literal}
use Rattle.language_meaning.specs.declared.tree.Literal.TheVariants.{Fits, Past}
use Rattle.written_syntax.specs.Proper.{IsNumeral}
use Rattle.smt_language.specs.Trees.{ExpressionTree, ExpressionTrees, LocalTrees, True, False, Numeral, Decimal, Named, Apply, Divisible, Quantified, Let, none, also, no_local, also_local}

-- a positive number within the limit, where it fits
abbrev pub IsPositive : Literal → Type 0
IsPositive (Fits n) = (pos 0 <ℤ n) × InLimit n
IsPositive Past = Unit {0}

abbrev mutual
  -- each numeral is one, and each divisor is positive
  pub IsProper : ExpressionTree → Type 0
  IsProper True = Unit {0}
  IsProper False = Unit {0}
  IsProper (Numeral k) = IsNumeral k
  IsProper (Decimal k power) = IsNumeral k × IsNumeral power
  IsProper (Named x) = Unit {0}
  IsProper (Apply o es) = AreProper es
  IsProper (Divisible k e) = IsPositive k × IsProper e
  IsProper (Quantified q xs e) = IsProper e
  IsProper (Let ls e) = AreProperLocals ls × IsProper e

  -- the same of each member
  pub AreProper : ExpressionTrees → Type 0
  AreProper none = Unit {0}
  AreProper (also e es) = IsProper e × AreProper es

  -- the same of each value of a let
  pub AreProperLocals : LocalTrees → Type 0
  AreProperLocals no_local = Unit {0}
  AreProperLocals (also_local x e ls) = IsProper e × AreProperLocals ls
