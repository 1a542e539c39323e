-- Sizes of expressions, by which reading ends.
use Rattle.std.proofs.Common.{◌≡◌, ◌≤◌, ◌<◌, ◌+◌, ℕ, suc, zero, List, [], ◌∷◌, length, map, get_or, ap, arith}
use Rattle.smt_tokens.specs.declared.expression.Expression as code
use Rattle.smt_tokens.specs.declared.expression.LocalValue as local
use Rattle.smt_tokens.specs.CodeTrees.{expression_tree, local_tree}
use Rattle.smt_language.specs.Trees.{ExpressionTree, ExpressionTrees, LocalTrees, True, False, Numeral, Decimal, Named, Apply, Divisible, Quantified, Let, none, also, no_local, also_local}
use Rattle.smt_tokens.specs.TreeLists.{expressions_of, locals_of}

abbrev mutual
  pub expression_size : ExpressionTree → ℕ
  expression_size True = 1
  expression_size False = 1
  expression_size (Numeral k) = 1
  expression_size (Decimal k power) = 1
  expression_size (Named x) = 1
  expression_size (Apply o es) = suc (expressions_size es)
  expression_size (Divisible k e) = suc (expression_size e)
  expression_size (Quantified q xs e) = suc (expression_size e)
  expression_size (Let ls e) = suc (locals_size ls + expression_size e)

  pub expressions_size : ExpressionTrees → ℕ
  expressions_size none = 0
  expressions_size (also e es) = expression_size e + expressions_size es

  pub locals_size : LocalTrees → ℕ
  locals_size no_local = 0
  locals_size (also_local x e ls) = expression_size e + locals_size ls

-- a member is no larger than all
pub member_size : (es : List code.Expression) (i : ℕ) (e : code.Expression) → i < length es → e ≡ get_or es i e → expression_size (expression_tree e) ≤ expressions_size (expressions_of (map expression_tree es))
member_size [] i e l h = absurd (omega arith)
member_size (x ∷ es) zero e l h = let k = ap (λ y. expression_size (expression_tree y)) h in omega (arith, k)
member_size (x ∷ es) (suc i) e l h = let r = member_size es i e (omega arith) h in omega (arith, r)

-- a value of a let is no larger than all
pub local_size : (ls : List local.LocalValue) (i : ℕ) (v : local.LocalValue) → i < length ls → v ≡ get_or ls i v → expression_size (local_tree v).value ≤ locals_size (locals_of (map local_tree ls))
local_size [] i v l h = absurd (omega arith)
local_size (x ∷ ls) zero v l h = let k = ap (λ y. expression_size (local_tree y).value) h in omega (arith, k)
local_size (x ∷ ls) (suc i) v l h = let r = local_size ls i v (omega arith) h in omega (arith, r)
