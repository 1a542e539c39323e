-- What is written with tokens that have numerals alone has numerals alone.
use Rattle.std.proofs.Common.{List, ◌∷◌}
use Rattle.smt_language.specs.declared.token.SmtToken.{SmtToken}
use Rattle.smt_language.specs.declared.token.SmtToken.TheVariants as token
use Rattle.smt_language.specs.SExprs.{SExprTree, SExprTrees, One, Group, none, also, token_of, written, written_all}
use Rattle.smt_theorems.proofs.ProperTokens.{IsProperToken, AreProperTokens}

abbrev mutual
  -- the numbers of each leaf are numerals
  pub IsProperTree : SExprTree → Type 0
  IsProperTree (One l) = IsProperToken (token_of l)
  IsProperTree (Group ss) = AreProperTrees ss

  -- the same of each of them
  pub AreProperTrees : SExprTrees → Type 0
  AreProperTrees none = Unit {0}
  AreProperTrees (also s ss) = IsProperTree s × AreProperTrees ss

mutual
  -- so it is with an S-expression and with the tokens after it
  pub tree_proper : (s : SExprTree) (rest : List SmtToken) → AreProperTokens (written s rest) → IsProperTree s × AreProperTokens rest
  tree_proper (One l) rest h = (h.0, h.1)
  tree_proper (Group ss) rest h = let k = trees_proper ss (token.Close ∷ rest) h.1 in (k.0, k.1.1)

  trees_proper : (ss : SExprTrees) (rest : List SmtToken) → AreProperTokens (written_all ss rest) → AreProperTrees ss × AreProperTokens rest
  trees_proper none rest h = (tt, h)
  trees_proper (also s ss) rest h =
      let k = tree_proper s (written_all ss rest) h in
      let l = trees_proper ss rest k.1 in
      ((k.0, l.0), l.1)
