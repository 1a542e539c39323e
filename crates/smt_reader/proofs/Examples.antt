-- Worked examples of the definitions. Each side is computed.
use Rattle.std.proofs.Common.{◌≡◌, ℕ, List, [], ◌∷◌, ◌++◌, true, false, refl, codes}
use Rattle.std.specs.Prelude.{pos, Option, Some, None, replicate}
use Rattle.std.specs.Option.{option_and_then}
use Rattle.logic_meaning.specs.declared.quantifier.Quantifier.TheVariants as quantifier
use Rattle.language_meaning.specs.declared.tree.Literal.TheVariants.{Fits}
use Rattle.smt_language.specs.declared.token.SmtLexeme.{SmtLexeme}
use Rattle.smt_language.specs.declared.token.SmtToken.{SmtToken}
use Rattle.smt_language.specs.declared.token.SmtToken.TheVariants as token
use Rattle.smt_language.specs.Lexing.{front, symbol, simple, barred, in_bars, over, spaced, taken}
use Rattle.smt_language.specs.declared.command.Sort.TheVariants as sort
use Rattle.smt_language.specs.declared.expression.Operator.{Operator}
use Rattle.smt_language.specs.declared.expression.Operator.TheVariants as operator
use Rattle.smt_language.specs.declared.names.SortedName.{SortedName}
use Rattle.smt_language.specs.Trees.{CommandTree, Choose, Ignored, Declare, Assert, Values, Exit, ExpressionTree, True, Numeral, Decimal, Named, Apply, Divisible, Quantified, Let, no_local, also_local}
use Rattle.smt_tokens.specs.TreeLists.{expressions_of}
use Rattle.smt_language.specs.Words.{word_of, logic_of}
use Rattle.smt_language.specs.Faults.{has_bad, is_deep}
use Rattle.smt_language.specs.declared.sexpr.Leaf.TheVariants as leaf
use Rattle.smt_language.specs.SExprs.{One, none, also}
use Rattle.smt_language.specs.ReadCommands.{command_of}
use Rattle.smt_reader.specs.Grouping.{grouped}
use Rattle.smt_language.specs.Spells.{Spells}
use Rattle.smt_reader.proofs.Grouped.{inside}

-- the command of these tokens
abbrev command : List SmtToken → Option CommandTree
command (token.Open ∷ ts) = option_and_then command_of (grouped (inside [] []) ts)
command ts = None

-- these between two parentheses
abbrev group : List SmtToken → List SmtToken
group ts = token.Open ∷ (ts ++ (token.Close ∷ []))

abbrev sign : List ℕ → SmtToken
sign x = token.Symbol x

abbrev numeral : ℕ → SmtToken
numeral n = token.Numeral (Fits (pos n))

abbrev name : List ℕ → ExpressionTree
name x = Named x

abbrev whole : ℕ → ExpressionTree
whole n = Numeral (Fits (pos n))

abbrev two : Operator → ExpressionTree → ExpressionTree → ExpressionTree
two o e f = Apply o (expressions_of (e ∷ f ∷ []))

abbrev of_sort : List ℕ → List ℕ → SortedName
of_sort x s = record { name = x; sort = s }

-- x is less than y
abbrev below : List ℕ → List ℕ → List SmtToken
below x y = group (sign (codes "<") ∷ sign x ∷ sign y ∷ [])

abbrev is_below : List ℕ → List ℕ → ExpressionTree
is_below x y = two operator.Less (name x) (name y)

-- the command that asserts what these are
abbrev asserted : List SmtToken → Option CommandTree
asserted ts = command (group (sign (codes "assert") ∷ ts))

-- ---- commands

-- (set-info :smt-lib-version 2.6)
info : command (group (sign (codes "set-info") ∷ token.Keyword ∷ token.Decimal (Fits (pos 26)) (Fits (pos 10)) ∷ [])) ≡ Some Ignored
unfolding word_of
info = refl

-- (set-option :produce-models true)
option : command (group (sign (codes "set-option") ∷ token.Keyword ∷ sign (codes "true") ∷ [])) ≡ Some Ignored
unfolding word_of
option = refl

-- (set-logic LRA)
rationals : command (group (sign (codes "set-logic") ∷ sign (codes "LRA") ∷ [])) ≡ Some (Choose sort.Real)
unfolding word_of logic_of
rationals = refl

-- (set-logic QF_LIA)
integers : command (group (sign (codes "set-logic") ∷ sign (codes "QF_LIA") ∷ [])) ≡ Some (Choose sort.Int)
unfolding word_of logic_of
integers = refl

-- (set-logic ALL)
no_logic : command (group (sign (codes "set-logic") ∷ sign (codes "ALL") ∷ [])) ≡ None
unfolding word_of logic_of
no_logic = refl

-- (declare-const a Real)
constant : command (group (sign (codes "declare-const") ∷ sign (codes "a") ∷ sign (codes "Real") ∷ [])) ≡ Some (Declare (of_sort (codes "a") (codes "Real")))
unfolding word_of
constant = refl

-- (declare-fun b () Bool): the sort is any symbol
function : command (group (sign (codes "declare-fun") ∷ sign (codes "b") ∷ group [] ++ sign (codes "Bool") ∷ [])) ≡ Some (Declare (of_sort (codes "b") (codes "Bool")))
unfolding word_of
function = refl

-- (declare-fun f (Real) Real)
no_function : command (group (sign (codes "declare-fun") ∷ sign (codes "f") ∷ group (sign (codes "Real") ∷ []) ++ sign (codes "Real") ∷ [])) ≡ None
unfolding word_of
no_function = refl

-- (declare-const and Real)
reserved : command (group (sign (codes "declare-const") ∷ sign (codes "and") ∷ sign (codes "Real") ∷ [])) ≡ None
unfolding word_of
reserved = refl

-- (get-value (a b))
values : command (group (sign (codes "get-value") ∷ group (sign (codes "a") ∷ sign (codes "b") ∷ []))) ≡ Some (Values (codes "a" ∷ codes "b" ∷ []))
unfolding word_of
values = refl

-- (get-value ())
no_values : command (group (sign (codes "get-value") ∷ group [])) ≡ None
unfolding word_of
no_values = refl

-- (exit)
exit : command (group (sign (codes "exit") ∷ [])) ≡ Some Exit
unfolding word_of
exit = refl

-- (push 1)
push : command (group (sign (codes "push") ∷ numeral 1 ∷ [])) ≡ None
unfolding word_of
push = refl

-- (check-sat, which is not closed, and (check-sat))
not_closed : command (token.Open ∷ sign (codes "check-sat") ∷ []) ≡ None
not_closed = refl

closed_twice : command (group (sign (codes "check-sat") ∷ token.Close ∷ [])) ≡ None
closed_twice = refl

-- ---- terms and formulas

-- (assert (exists ((x Real)) (and (< a x) (< x b))))
between : asserted (group (sign (codes "exists") ∷ group (group (sign (codes "x") ∷ sign (codes "Real") ∷ [])) ++ group (sign (codes "and") ∷ below (codes "a") (codes "x") ++ below (codes "x") (codes "b"))))
    ≡ Some (Assert (Quantified quantifier.Exists (of_sort (codes "x") (codes "Real") ∷ []) (two operator.And (is_below (codes "a") (codes "x")) (is_below (codes "x") (codes "b")))))
unfolding word_of
between = refl

-- (assert (= b (/ 1 2)))
half : asserted (group (sign (codes "=") ∷ sign (codes "b") ∷ group (sign (codes "/") ∷ numeral 1 ∷ numeral 2 ∷ [])))
    ≡ Some (Assert (two operator.Equal (name (codes "b")) (two operator.Divided (whole 1) (whole 2))))
unfolding word_of
half = refl

-- (assert (< 1.5 2))
decimal : asserted (group (sign (codes "<") ∷ token.Decimal (Fits (pos 15)) (Fits (pos 10)) ∷ numeral 2 ∷ []))
    ≡ Some (Assert (two operator.Less (Decimal (Fits (pos 15)) (Fits (pos 10))) (whole 2)))
unfolding word_of
decimal = refl

-- (assert (let ((y x)) (exists ((x Real)) (< x y))))
local_name : asserted (group (sign (codes "let") ∷ group (group (sign (codes "y") ∷ sign (codes "x") ∷ [])) ++ group (sign (codes "exists") ∷ group (group (sign (codes "x") ∷ sign (codes "Real") ∷ [])) ++ below (codes "x") (codes "y"))))
    ≡ Some (Assert (Let (also_local (codes "y") (name (codes "x")) no_local) (Quantified quantifier.Exists (of_sort (codes "x") (codes "Real") ∷ []) (is_below (codes "x") (codes "y")))))
unfolding word_of
local_name = refl

-- (assert (let ((y 1) (y 2)) true)), where y is bound twice
bound_twice : asserted (group (sign (codes "let") ∷ group (group (sign (codes "y") ∷ numeral 1 ∷ []) ++ group (sign (codes "y") ∷ numeral 2 ∷ [])) ++ sign (codes "true") ∷ [])) ≡ None
unfolding word_of
bound_twice = refl

-- (assert (forall ((x Int) (x Int)) true))
quantified_twice : asserted (group (sign (codes "forall") ∷ group (group (sign (codes "x") ∷ sign (codes "Int") ∷ []) ++ group (sign (codes "x") ∷ sign (codes "Int") ∷ [])) ++ sign (codes "true") ∷ [])) ≡ None
unfolding word_of
quantified_twice = refl

-- (assert (forall () true))
no_binding : asserted (group (sign (codes "forall") ∷ group [] ++ sign (codes "true") ∷ [])) ≡ None
unfolding word_of
no_binding = refl

-- (assert (=> true true true))
implied : asserted (group (sign (codes "=>") ∷ sign (codes "true") ∷ sign (codes "true") ∷ sign (codes "true") ∷ [])) ≡ Some (Assert (Apply operator.Implies (expressions_of (True ∷ True ∷ True ∷ []))))
unfolding word_of
implied = refl

-- (assert (=> true))
implied_alone : asserted (group (sign (codes "=>") ∷ sign (codes "true") ∷ [])) ≡ None
unfolding word_of
implied_alone = refl

-- (assert (< (- 1) (- x 1 2)))
minus : asserted (group (sign (codes "<") ∷ group (sign (codes "-") ∷ numeral 1 ∷ []) ++ group (sign (codes "-") ∷ sign (codes "x") ∷ numeral 1 ∷ numeral 2 ∷ [])))
    ≡ Some (Assert (two operator.Less (Apply operator.Minus (expressions_of (whole 1 ∷ []))) (Apply operator.Minus (expressions_of (name (codes "x") ∷ whole 1 ∷ whole 2 ∷ [])))))
unfolding word_of
minus = refl

-- (assert ((_ divisible 3) (+ x 1)))
divided : asserted (group (group (sign (codes "_") ∷ sign (codes "divisible") ∷ numeral 3 ∷ []) ++ group (sign (codes "+") ∷ sign (codes "x") ∷ numeral 1 ∷ [])))
    ≡ Some (Assert (Divisible (Fits (pos 3)) (two operator.Plus (name (codes "x")) (whole 1))))
unfolding word_of
divided = refl

-- (assert ((_ divisible 0) x))
divided_by_nothing : asserted (group (group (sign (codes "_") ∷ sign (codes "divisible") ∷ numeral 0 ∷ []) ++ sign (codes "x") ∷ [])) ≡ None
unfolding word_of
divided_by_nothing = refl

-- (assert (ite true true true))
conditional : asserted (group (sign (codes "ite") ∷ sign (codes "true") ∷ sign (codes "true") ∷ sign (codes "true") ∷ [])) ≡ None
unfolding word_of
conditional = refl

-- ---- bad tokens, and levels

-- a symbol without a byte, in an assert and in a set-info, and a bad token there
bad_symbol : has_bad (group (sign (codes "assert") ∷ token.Unfit ∷ [])) ≡ true
unfolding word_of
bad_symbol = refl

any_symbol : has_bad (group (sign (codes "set-info") ∷ token.Keyword ∷ token.Unfit ∷ [])) ≡ false
unfolding word_of
any_symbol = refl

bad_token : has_bad (group (sign (codes "set-info") ∷ token.Bad ∷ [])) ≡ true
unfolding word_of
bad_token = refl

-- 512 parentheses inside one another, and 513
at_the_limit : is_deep (replicate 512 token.Open) ≡ false
at_the_limit = refl

past_the_limit : is_deep (replicate 513 token.Open) ≡ true
past_the_limit = refl

-- ---- bytes

abbrev lexeme : SmtToken → ℕ → ℕ → SmtLexeme
lexeme t start end = record { token = t; start = start; end = end }

-- (assert |true|): bars are no part of a symbol
in_bars_too : Spells (codes "(assert |true|)") (Assert True)
unfolding front simple symbol barred in_bars word_of
in_bars_too = record {
  tokens = token.Open ∷ sign (codes "assert") ∷ sign (codes "true") ∷ token.Close ∷ [];
  good = record {
    are = record {
      lexemes = lexeme token.Open 0 1 ∷ lexeme (sign (codes "assert")) 1 7 ∷ lexeme (sign (codes "true")) 8 14 ∷ lexeme token.Close 14 15 ∷ [];
      lexes = taken refl refl refl (taken refl refl refl (spaced refl (taken refl refl refl (taken refl refl refl over))));
      same = refl;
    };
    good = refl;
  };
  shallow = refl;
  says = record { members = also (One (leaf.Symbol (codes "assert"))) (also (One (leaf.Symbol (codes "true"))) none); written = refl; is = refl };
}

-- (declare-const |a b| Real)
with_a_blank : Spells (codes "(declare-const |a b| Real)") (Declare (of_sort (codes "a b") (codes "Real")))
unfolding front simple symbol barred in_bars word_of
with_a_blank = record {
  tokens = token.Open ∷ sign (codes "declare-const") ∷ sign (codes "a b") ∷ sign (codes "Real") ∷ token.Close ∷ [];
  good = record {
    are = record {
      lexemes = lexeme token.Open 0 1 ∷ lexeme (sign (codes "declare-const")) 1 14 ∷ lexeme (sign (codes "a b")) 15 20 ∷ lexeme (sign (codes "Real")) 21 25 ∷ lexeme token.Close 25 26 ∷ [];
      lexes = taken refl refl refl (taken refl refl refl (spaced refl (taken refl refl refl (spaced refl (taken refl refl refl (taken refl refl refl over))))));
      same = refl;
    };
    good = refl;
  };
  shallow = refl;
  says = record { members = also (One (leaf.Symbol (codes "declare-const"))) (also (One (leaf.Symbol (codes "a b"))) (also (One (leaf.Symbol (codes "Real"))) none)); written = refl; is = refl };
}
