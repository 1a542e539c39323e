-- The term or formula that an S-expression is, by shape and number of members alone.
use Rattle.std.specs.Prelude.{ℕ, Bool, false, List, Option, Some, None, nat_le, ◌==◌, pos, negsuc, if◌then◌else◌}
use Rattle.std.specs.Option.{option_map, option_and_then}
use Rattle.logic_meaning.specs.declared.quantifier.Quantifier.{Quantifier}
use Rattle.language_meaning.specs.declared.tree.Literal.{Literal}
use Rattle.language_meaning.specs.declared.tree.Literal.TheVariants as literal
use Rattle.smt_language.specs.declared.expression.Operator.{Operator}
use Rattle.smt_language.specs.declared.expression.Operator.TheVariants as operator
use Rattle.smt_language.specs.declared.names.SortedName.{SortedName}
use Rattle.smt_language.specs.Trees.{ExpressionTree, ExpressionTrees, LocalTrees, LocalTree, True, False, Numeral, Decimal, Named, Apply, Divisible, Quantified, Let, no_local, also_local}
use Rattle.smt_language.specs.Trees as syntax
use Rattle.smt_language.specs.declared.sexpr.Leaf.{Leaf}
use Rattle.smt_language.specs.declared.sexpr.Leaf.TheVariants as leaf
use Rattle.smt_language.specs.declared.word.Word.{Word}
use Rattle.smt_language.specs.declared.word.Word.TheVariants as word
use Rattle.smt_language.specs.declared.head.Head.{Head}
use Rattle.smt_language.specs.declared.head.Head.TheVariants as head
use Rattle.smt_language.specs.SExprs.{SExprTree, SExprTrees, One, Group, none, also}
use Rattle.smt_language.specs.Words.{word_of}
use Rattle.smt_language.specs.SpelledShapes.{word_at, name_at, numeral_at, group_at, two_of, count}
use Rattle.smt_language.specs.Bindings.{are_bindings, scope_of}

-- a symbol, which is this word if it is reserved
abbrev pub symbol_expression : List ℕ → Option Word → Option ExpressionTree
symbol_expression x None = Some (Named x)
symbol_expression x (Some word.True) = Some True
symbol_expression x (Some word.False) = Some False
symbol_expression x (Some w) = None

-- a leaf
abbrev pub leaf_expression : Leaf → Option ExpressionTree
leaf_expression (leaf.Numeral n) = Some (Numeral n)
leaf_expression (leaf.Decimal n power) = Some (Decimal n power)
leaf_expression (leaf.Symbol x) = symbol_expression x (word_of x)
leaf_expression l = None

-- the operator takes so many members
abbrev pub takes : Operator → ℕ → Bool
takes operator.Not n = n == 1
takes operator.And n = nat_le 1 n
takes operator.Or n = nat_le 1 n
takes operator.Implies n = nat_le 2 n
takes operator.Equal n = nat_le 2 n
takes operator.Less n = nat_le 2 n
takes operator.AtMost n = nat_le 2 n
takes operator.Greater n = nat_le 2 n
takes operator.AtLeast n = nat_le 2 n
takes operator.Distinct n = nat_le 2 n
takes operator.Plus n = nat_le 2 n
takes operator.Times n = nat_le 2 n
takes operator.Minus n = nat_le 1 n
takes operator.Divided n = n == 2

-- what a reserved symbol is at the front of others
abbrev pub word_head : Option Word → Option Head
word_head None = None
word_head (Some (word.Operator o)) = Some (head.Operator o)
word_head (Some (word.Quantifier q)) = Some (head.Quantifier q)
word_head (Some word.Let) = Some head.Let
word_head (Some w) = None

-- the number 0
abbrev pub is_zero : Literal → Bool
is_zero literal.Past = false
is_zero (literal.Fits (pos n)) = n == 0
is_zero (literal.Fits (negsuc n)) = false

-- what divides, which is not 0
abbrev pub divisor_head : Option Word → Option Word → Option Literal → Option Head
divisor_head (Some word.Underscore) (Some word.Divisible) (Some n) = if is_zero n then None else Some (head.Divisible n)
divisor_head v w n = None

-- what a group is at the front of others: (_ divisible n)
abbrev pub group_head : SExprTrees → Option Head
group_head none = None
group_head (also s none) = None
group_head (also s (also t none)) = None
group_head (also s (also t (also u none))) = divisor_head (word_at s) (word_at t) (numeral_at u)
group_head (also s (also t (also u (also v ss)))) = None

-- what stands at the front of others
abbrev pub head_of : SExprTree → Option Head
head_of (One l) = word_head (word_at (One l))
head_of (Group ss) = group_head ss

-- one before others, where there are both
abbrev pub member_before : Option ExpressionTree → Option ExpressionTrees → Option ExpressionTrees
member_before None es = None
member_before (Some e) None = None
member_before (Some e) (Some es) = Some (syntax.also e es)

-- a name of a let with what it stands for, where there are both
abbrev pub local_named : Option (List ℕ) → Option ExpressionTree → Option LocalTree
local_named x e = option_and_then (λ name. option_map (λ value. record { name = name; value = value }) e) x

-- one before others, where there are both
abbrev pub local_before : Option LocalTree → Option LocalTrees → Option LocalTrees
local_before None ls = None
local_before (Some l) None = None
local_before (Some l) (Some ls) = Some (also_local l.name l.value ls)

-- an operator with its members
abbrev pub applied : Operator → ℕ → Option ExpressionTrees → Option ExpressionTree
applied o n es = if takes o n then option_map (Apply o) es else None

-- a quantifier with its names and its formula
abbrev pub quantified : Quantifier → Option (List SortedName) → Option ExpressionTree → Option ExpressionTree
quantified q xs e = option_and_then (λ names. option_map (Quantified q names) e) xs

-- a let with its names and what they are used in
abbrev pub local_of : Bool → Option LocalTrees → Option ExpressionTree → Option ExpressionTree
local_of apart ls e = if apart then option_and_then (λ values. option_map (Let values) e) ls else None

-- the bindings of the first of two members
abbrev pub bindings_of : SExprTrees → Option SExprTrees
bindings_of ss = option_and_then (λ pair. group_at pair.0) (two_of ss)

-- there are bindings, and they are proper
abbrev pub are_apart : Option SExprTrees → Bool
are_apart None = false
are_apart (Some bs) = are_bindings bs

-- what a head makes of the members after it, which are read as a list of members, as a single one, as the last of two, and as the
-- values of a let
abbrev pub headed : Option Head → SExprTrees → Option ExpressionTrees → Option ExpressionTree → Option ExpressionTree → Option LocalTrees → Option ExpressionTree
headed None ss members single body values = None
headed (Some (head.Operator o)) ss members single body values = applied o (count ss) members
headed (Some (head.Divisible n)) ss members single body values = option_map (Divisible n) single
headed (Some (head.Quantifier q)) ss members single body values = quantified q (option_and_then scope_of (bindings_of ss)) body
headed (Some head.Let) ss members single body values = local_of (are_apart (bindings_of ss)) values body

-- the term or formula that an S-expression is
abbrev mutual
  pub expression_of : SExprTree → Option ExpressionTree
  expression_of (One l) = leaf_expression l
  expression_of (Group ss) = group_of ss

  -- what a group of these is
  pub group_of : SExprTrees → Option ExpressionTree
  group_of none = None
  group_of (also s ss) = headed (head_of s) ss (members_of ss) (single_of ss) (body_of ss) (values_of ss)

  -- each of them
  pub members_of : SExprTrees → Option ExpressionTrees
  members_of none = Some syntax.none
  members_of (also s ss) = member_before (expression_of s) (members_of ss)

  -- a single one
  pub single_of : SExprTrees → Option ExpressionTree
  single_of none = None
  single_of (also s none) = expression_of s
  single_of (also s (also t ss)) = None

  -- the second of two
  pub body_of : SExprTrees → Option ExpressionTree
  body_of none = None
  body_of (also s none) = None
  body_of (also s (also t none)) = expression_of t
  body_of (also s (also t (also u ss))) = None

  -- the values that the first of two has for the names of a let
  pub values_of : SExprTrees → Option LocalTrees
  values_of none = None
  values_of (also s ss) = values_in s

  -- what the bindings between its parentheses say
  pub values_in : SExprTree → Option LocalTrees
  values_in (One l) = None
  values_in (Group bs) = locals_of bs

  -- what the bindings of a let say
  pub locals_of : SExprTrees → Option LocalTrees
  locals_of none = Some no_local
  locals_of (also b bs) = local_before (local_at b) (locals_of bs)

  -- what one of them says: (x e)
  pub local_at : SExprTree → Option LocalTree
  local_at (One l) = None
  local_at (Group ss) = local_pair ss

  -- what a name and an expression say
  pub local_pair : SExprTrees → Option LocalTree
  local_pair none = None
  local_pair (also x ss) = local_named (name_at x) (single_of ss)
