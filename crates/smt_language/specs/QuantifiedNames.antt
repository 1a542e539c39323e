-- How many names the quantifiers of an expression have.
use Rattle.std.specs.Prelude.{ℕ, ◌+◌, length}
use Rattle.smt_language.specs.Trees.{ExpressionTree, ExpressionTrees, LocalTrees, True, False, Numeral, Decimal, Named, Apply, Divisible, Quantified, Let, none, also, no_local, also_local}

abbrev mutual
  -- how many names the quantifiers of an expression have
  pub quantified_names : ExpressionTree → ℕ
  quantified_names True = 0
  quantified_names False = 0
  quantified_names (Numeral k) = 0
  quantified_names (Decimal k power) = 0
  quantified_names (Named x) = 0
  quantified_names (Apply o es) = all_quantified_names es
  quantified_names (Divisible k e) = quantified_names e
  quantified_names (Quantified q xs e) = length xs + quantified_names e
  quantified_names (Let ls e) = local_quantified_names ls + quantified_names e

  -- those of the members together
  pub all_quantified_names : ExpressionTrees → ℕ
  all_quantified_names none = 0
  all_quantified_names (also e es) = quantified_names e + all_quantified_names es

  -- those of the values of a let together
  pub local_quantified_names : LocalTrees → ℕ
  local_quantified_names no_local = 0
  local_quantified_names (also_local x e ls) = quantified_names e + local_quantified_names ls
