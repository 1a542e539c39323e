-- The members of a list as S-expressions, and the leaf that a token is.
use Rattle.std.specs.Prelude.{List, [], ◌∷◌, Option, Some, None}
use Rattle.smt_language.specs.declared.token.SmtToken.{SmtToken}
use Rattle.smt_language.specs.declared.token.SmtToken.TheVariants as token
use Rattle.smt_language.specs.declared.sexpr.Leaf.{Leaf}
use Rattle.smt_language.specs.declared.sexpr.Leaf.TheVariants as leaf
use Rattle.smt_language.specs.SExprs.{SExprTree, SExprTrees, none, also}

-- the members of a list
abbrev pub sexprs_of : List SExprTree → SExprTrees
sexprs_of [] = none
sexprs_of (s ∷ ss) = also s (sexprs_of ss)

-- the leaf of a token, where it is one: no parenthesis, and not bad
abbrev pub leaf_of : SmtToken → Option Leaf
leaf_of (token.Numeral n) = Some (leaf.Numeral n)
leaf_of (token.Decimal n power) = Some (leaf.Decimal n power)
leaf_of (token.Symbol x) = Some (leaf.Symbol x)
leaf_of token.Unfit = Some leaf.Unfit
leaf_of token.Text = Some leaf.Text
leaf_of token.Keyword = Some leaf.Keyword
leaf_of token.Open = None
leaf_of token.Close = None
leaf_of token.Bad = None
