-- The expression of an S-expression that has numerals alone has numerals alone, and positive divisors.
use Rattle.std.proofs.Common.{◌≡◌, ℕ, Bool, true, false, List, refl, arith}
use Rattle.std.specs.Prelude.{pos, negsuc, Option, Some, None, IfSome, if◌then◌else◌}
use Rattle.std.proofs.lemmas.Int.{ints}
use Rattle.logic_meaning.specs.declared.quantifier.Quantifier.{Quantifier}
use Rattle.language_meaning.specs.declared.tree.Literal.{Literal}
use Rattle.language_meaning.specs.declared.tree.Literal.TheVariants.{Fits, Past}
use Rattle.written_syntax.specs.Proper.{IsNumeral}
use Rattle.smt_language.specs.declared.expression.Operator.{Operator}
use Rattle.smt_language.specs.declared.names.SortedName.{SortedName}
use Rattle.smt_language.specs.Trees.{ExpressionTree, ExpressionTrees, LocalTrees, LocalTree, Apply, Divisible, Let}
use Rattle.smt_language.specs.declared.word.Word.{Word}
use Rattle.smt_language.specs.declared.word.Word.TheVariants as word
use Rattle.smt_language.specs.Words.{word_of}
use Rattle.smt_language.specs.declared.sexpr.Leaf.{Leaf}
use Rattle.smt_language.specs.declared.sexpr.Leaf.TheVariants as leaf
use Rattle.smt_language.specs.declared.head.Head.{Head}
use Rattle.smt_language.specs.declared.head.Head.TheVariants as head
use Rattle.smt_language.specs.SExprs.{SExprTree, SExprTrees, One, Group, none, also, token_of}
use Rattle.smt_language.specs.SpelledShapes.{word_at, name_at, numeral_in, numeral_at, count}
use Rattle.smt_language.specs.Bindings.{scope_of}
use Rattle.smt_language.specs.Expressions.{symbol_expression, leaf_expression, takes, word_head, is_zero, divisor_head, group_head, head_of, member_before, local_named, local_before, applied, quantified, bindings_of, local_of, are_apart, headed, expression_of, group_of, members_of, single_of, body_of, values_of, values_in, locals_of, local_at, local_pair}
use Rattle.std.specs.Option.{option_map, option_and_then}
use Rattle.smt_meaning.specs.Proper.{IsPositive, IsProper, AreProper, AreProperLocals}
use Rattle.smt_theorems.proofs.ProperTokens.{IsProperToken, either}
use Rattle.smt_theorems.proofs.ProperTrees.{IsProperTree, AreProperTrees}

-- the value of a name of a let has proper numbers
abbrev IsProperLocal : LocalTree → Type 0
IsProperLocal l = IsProper l.value

-- ---- leaves

symbol_proper : (x : List ℕ) (w : Option Word) → IfSome (symbol_expression x w) IsProper
symbol_proper x None = tt
symbol_proper x (Some word.True) = tt
symbol_proper x (Some word.False) = tt
symbol_proper x (Some w) = tt

leaf_proper : (l : Leaf) → IsProperToken (token_of l) → IfSome (leaf_expression l) IsProper
leaf_proper (leaf.Numeral n) h = h
leaf_proper (leaf.Decimal n power) h = h
leaf_proper (leaf.Symbol x) h = symbol_proper x (word_of x)
leaf_proper leaf.Unfit h = tt
leaf_proper leaf.Text h = tt
leaf_proper leaf.Keyword h = tt

numeral_leaf : (l : Leaf) → IsProperToken (token_of l) → IfSome (numeral_in l) IsNumeral
numeral_leaf (leaf.Numeral n) h = h
numeral_leaf l h = tt

numeral_proper : (s : SExprTree) → IsProperTree s → IfSome (numeral_at s) IsNumeral
numeral_proper (One l) h = numeral_leaf l h
numeral_proper (Group ss) h = tt

-- ---- heads

-- a divisor is positive
abbrev IsProperHead : Head → Type 0
IsProperHead (head.Operator o) = Unit {0}
IsProperHead (head.Divisible n) = IsPositive n
IsProperHead (head.Quantifier q) = Unit {0}
IsProperHead head.Let = Unit {0}

word_proper : (w : Option Word) → IfSome (word_head w) IsProperHead
word_proper None = tt
word_proper (Some (word.Operator o)) = tt
word_proper (Some (word.Quantifier q)) = tt
word_proper (Some word.Let) = tt
word_proper (Some w) = tt

positive : (n : Literal) → is_zero n ≡ false → IsNumeral n → IsPositive n
positive Past e h = tt
positive (Fits (pos n)) e h = (grind (arith, ints), h.1)
positive (Fits (negsuc n)) e h = absurd (omega (arith, ints))

divided : (n : Literal) (zero : Bool) → is_zero n ≡ zero → IsNumeral n → IfSome (if zero then None else Some (head.Divisible n)) IsProperHead
divided n true e h = tt
divided n false e h = positive n e h

divisor_proper : (v w : Option Word) (n : Option Literal) → IfSome n IsNumeral → IfSome (divisor_head v w n) IsProperHead
divisor_proper (Some word.Underscore) (Some word.Divisible) (Some n) h = divided n (is_zero n) refl h
divisor_proper v w n h = tt

head_group : (ss : SExprTrees) → AreProperTrees ss → IfSome (group_head ss) IsProperHead
head_group none h = tt
head_group (also s none) h = tt
head_group (also s (also t none)) h = tt
head_group (also s (also t (also u none))) h = divisor_proper (word_at s) (word_at t) (numeral_at u) (numeral_proper u h.1.1.0)
head_group (also s (also t (also u (also v ss)))) h = tt

head_proper : (s : SExprTree) → IsProperTree s → IfSome (head_of s) IsProperHead
head_proper (One l) h = word_proper (word_at (One l))
head_proper (Group ss) h = head_group ss h

-- ---- what a head makes of members

before_proper : (e : Option ExpressionTree) (es : Option ExpressionTrees) → IfSome e IsProper → IfSome es AreProper → IfSome (member_before e es) AreProper
before_proper None es h k = tt
before_proper (Some e) None h k = tt
before_proper (Some e) (Some es) h k = (h, k)

named_proper : (x : Option (List ℕ)) (e : Option ExpressionTree) → IfSome e IsProper → IfSome (local_named x e) IsProperLocal
named_proper None e h = tt
named_proper (Some x) None h = tt
named_proper (Some x) (Some e) h = h

local_proper : (l : Option LocalTree) (ls : Option LocalTrees) → IfSome l IsProperLocal → IfSome ls AreProperLocals → IfSome (local_before l ls) AreProperLocals
local_proper None ls h k = tt
local_proper (Some l) None h k = tt
local_proper (Some l) (Some ls) h k = (h, k)

members_applied : (o : Operator) (es : Option ExpressionTrees) → IfSome es AreProper → IfSome (option_map (Apply o) es) IsProper
members_applied o None h = tt
members_applied o (Some es) h = h

applied_proper : (o : Operator) (n : ℕ) (es : Option ExpressionTrees) → IfSome es AreProper → IfSome (applied o n es) IsProper
applied_proper o n es h = either (λ e. IfSome e IsProper) (takes o n) _ _ (members_applied o es h) tt

divisible_proper : (n : Literal) (e : Option ExpressionTree) → IsPositive n → IfSome e IsProper → IfSome (option_map (Divisible n) e) IsProper
divisible_proper n None p h = tt
divisible_proper n (Some e) p h = (p, h)

quantified_proper : (q : Quantifier) (xs : Option (List SortedName)) (e : Option ExpressionTree) → IfSome e IsProper → IfSome (quantified q xs e) IsProper
quantified_proper q None e h = tt
quantified_proper q (Some xs) None h = tt
quantified_proper q (Some xs) (Some e) h = h

values_used : (ls : Option LocalTrees) (e : Option ExpressionTree) → IfSome ls AreProperLocals → IfSome e IsProper → IfSome (option_and_then (λ values. option_map (Let values) e) ls) IsProper
values_used None e h k = tt
values_used (Some ls) None h k = tt
values_used (Some ls) (Some e) h k = (h, k)

let_proper : (apart : Bool) (ls : Option LocalTrees) (e : Option ExpressionTree) → IfSome ls AreProperLocals → IfSome e IsProper → IfSome (local_of apart ls e) IsProper
let_proper apart ls e h k = either (λ e. IfSome e IsProper) apart _ _ (values_used ls e h k) tt

headed_proper : (h : Option Head) (ss : SExprTrees) (members : Option ExpressionTrees) (single body : Option ExpressionTree) (values : Option LocalTrees) → IfSome h IsProperHead
    → IfSome members AreProper → IfSome single IsProper → IfSome body IsProper → IfSome values AreProperLocals → IfSome (headed h ss members single body values) IsProper
headed_proper None ss members single body values h m s b v = tt
headed_proper (Some (head.Operator o)) ss members single body values h m s b v = applied_proper o (count ss) members m
headed_proper (Some (head.Divisible n)) ss members single body values h m s b v = divisible_proper n single h s
headed_proper (Some (head.Quantifier q)) ss members single body values h m s b v = quantified_proper q (option_and_then scope_of (bindings_of ss)) body b
headed_proper (Some head.Let) ss members single body values h m s b v = let_proper (are_apart (bindings_of ss)) values body v b

-- ---- expressions

mutual
  -- so it is with what an S-expression is
  pub expression_proper : (s : SExprTree) → IsProperTree s → IfSome (expression_of s) IsProper
  expression_proper (One l) h = leaf_proper l h
  expression_proper (Group ss) h = group_proper ss h

  group_proper : (ss : SExprTrees) → AreProperTrees ss → IfSome (group_of ss) IsProper
  group_proper none h = tt
  group_proper (also s ss) h =
      headed_proper (head_of s) ss (members_of ss) (single_of ss) (body_of ss) (values_of ss)
      (head_proper s h.0) (members_proper ss h.1) (single_proper ss h.1) (body_proper ss h.1) (values_proper ss h.1)

  members_proper : (ss : SExprTrees) → AreProperTrees ss → IfSome (members_of ss) AreProper
  members_proper none h = tt
  members_proper (also s ss) h = before_proper (expression_of s) (members_of ss) (expression_proper s h.0) (members_proper ss h.1)

  single_proper : (ss : SExprTrees) → AreProperTrees ss → IfSome (single_of ss) IsProper
  single_proper none h = tt
  single_proper (also s none) h = expression_proper s h.0
  single_proper (also s (also t ss)) h = tt

  body_proper : (ss : SExprTrees) → AreProperTrees ss → IfSome (body_of ss) IsProper
  body_proper none h = tt
  body_proper (also s none) h = tt
  body_proper (also s (also t none)) h = expression_proper t h.1.0
  body_proper (also s (also t (also u ss))) h = tt

  values_proper : (ss : SExprTrees) → AreProperTrees ss → IfSome (values_of ss) AreProperLocals
  values_proper none h = tt
  values_proper (also s ss) h = values_in_proper s h.0

  values_in_proper : (s : SExprTree) → IsProperTree s → IfSome (values_in s) AreProperLocals
  values_in_proper (One l) h = tt
  values_in_proper (Group bs) h = locals_proper bs h

  locals_proper : (bs : SExprTrees) → AreProperTrees bs → IfSome (locals_of bs) AreProperLocals
  locals_proper none h = tt
  locals_proper (also b bs) h = local_proper (local_at b) (locals_of bs) (local_at_proper b h.0) (locals_proper bs h.1)

  local_at_proper : (b : SExprTree) → IsProperTree b → IfSome (local_at b) IsProperLocal
  local_at_proper (One l) h = tt
  local_at_proper (Group ss) h = local_pair_proper ss h

  local_pair_proper : (ss : SExprTrees) → AreProperTrees ss → IfSome (local_pair ss) IsProperLocal
  local_pair_proper none h = tt
  local_pair_proper (also x ss) h = named_proper (name_at x) (single_of ss) (single_proper ss h.1)
