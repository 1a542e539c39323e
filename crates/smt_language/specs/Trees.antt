-- Commands, terms and formulas as plain trees: what the code's values stand for, with no memory in it.
use Rattle.std.specs.Prelude.{ℕ, List}
use Rattle.logic_meaning.specs.declared.quantifier.Quantifier.{Quantifier}
use Rattle.language_meaning.specs.declared.tree.Literal.{Literal}
use Rattle.smt_language.specs.declared.command.Sort.{Sort}
use Rattle.smt_language.specs.declared.expression.Operator.{Operator}
use Rattle.smt_language.specs.declared.names.SortedName.{SortedName}

-- a term or a formula as it is written; a name is its list of bytes
mutual
  pub data ExpressionTree : Type 0 where
    True : ExpressionTree
    False : ExpressionTree
    Numeral : Literal → ExpressionTree
    Decimal : Literal → Literal → ExpressionTree
    Named : List ℕ → ExpressionTree
    Apply : Operator → ExpressionTrees → ExpressionTree
    Divisible : Literal → ExpressionTree → ExpressionTree
    Quantified : Quantifier → List SortedName → ExpressionTree → ExpressionTree
    Let : LocalTrees → ExpressionTree → ExpressionTree

  -- the members that an operator takes: none, or one before others
  pub data ExpressionTrees : Type 0 where
    none : ExpressionTrees
    also : ExpressionTree → ExpressionTrees → ExpressionTrees

  -- the names of a let with what they stand for: none, or one before others
  pub data LocalTrees : Type 0 where
    no_local : LocalTrees
    also_local : List ℕ → ExpressionTree → LocalTrees → LocalTrees

-- a name of a let with what it stands for
pub record LocalTree : Type 0 where
  pub name : List ℕ
  pub value : ExpressionTree

-- a command of a script
pub data CommandTree : Type 0 where
  Choose : Sort → CommandTree
  Ignored : CommandTree
  Declare : SortedName → CommandTree
  Assert : ExpressionTree → CommandTree
  Check : CommandTree
  Values : List (List ℕ) → CommandTree
  Exit : CommandTree
