-- S-expressions, and the tokens that each is written with.
use Rattle.std.specs.Prelude.{List, ◌∷◌}
use Rattle.smt_language.specs.declared.token.SmtToken.{SmtToken}
use Rattle.smt_language.specs.declared.token.SmtToken.TheVariants as token
use Rattle.smt_language.specs.declared.sexpr.Leaf.{Leaf}
use Rattle.smt_language.specs.declared.sexpr.Leaf.TheVariants as leaf

-- a leaf, or what stands between two parentheses
mutual
  pub data SExprTree : Type 0 where
    One : Leaf → SExprTree
    Group : SExprTrees → SExprTree

  -- none, or one before others
  pub data SExprTrees : Type 0 where
    none : SExprTrees
    also : SExprTree → SExprTrees → SExprTrees

-- the token of a leaf
abbrev pub token_of : Leaf → SmtToken
token_of (leaf.Numeral n) = token.Numeral n
token_of (leaf.Decimal n power) = token.Decimal n power
token_of (leaf.Symbol x) = token.Symbol x
token_of leaf.Unfit = token.Unfit
token_of leaf.Text = token.Text
token_of leaf.Keyword = token.Keyword

-- the tokens of an S-expression, and these after them
abbrev mutual
  pub written : SExprTree → List SmtToken → List SmtToken
  written (One l) rest = token_of l ∷ rest
  written (Group ss) rest = token.Open ∷ written_all ss (token.Close ∷ rest)

  -- the tokens of all of them, one after another, and these after them
  pub written_all : SExprTrees → List SmtToken → List SmtToken
  written_all none rest = rest
  written_all (also s ss) rest = written s (written_all ss rest)
