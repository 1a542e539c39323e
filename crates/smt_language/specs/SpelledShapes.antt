-- What single S-expressions are: symbols, numerals, names, groups of two.
use Rattle.std.specs.Prelude.{ℕ, suc, Bool, true, false, List, [], ◌∷◌, Option, Some, None, is_some, if◌then◌else◌}
use Rattle.std.specs.Option.{option_and_then}
use Rattle.language_meaning.specs.declared.tree.Literal.{Literal}
use Rattle.smt_language.specs.declared.sexpr.Leaf.{Leaf}
use Rattle.smt_language.specs.declared.sexpr.Leaf.TheVariants as leaf
use Rattle.smt_language.specs.declared.word.Word.{Word}
use Rattle.smt_language.specs.SExprs.{SExprTree, SExprTrees, One, Group, none, also}
use Rattle.smt_language.specs.Words.{word_of}

-- the text of a leaf that is a symbol
abbrev pub symbol_in : Leaf → Option (List ℕ)
symbol_in (leaf.Symbol x) = Some x
symbol_in l = None

-- the text of a symbol
abbrev pub symbol_at : SExprTree → Option (List ℕ)
symbol_at (One l) = symbol_in l
symbol_at (Group ss) = None

-- what a reserved symbol is
abbrev pub word_at : SExprTree → Option Word
word_at s = option_and_then word_of (symbol_at s)

-- a text that is not reserved
abbrev pub free : List ℕ → Option (List ℕ)
free x = if is_some (word_of x) then None else Some x

-- a symbol that may be a name
abbrev pub name_at : SExprTree → Option (List ℕ)
name_at s = option_and_then free (symbol_at s)

-- the number of a leaf that is a numeral
abbrev pub numeral_in : Leaf → Option Literal
numeral_in (leaf.Numeral n) = Some n
numeral_in l = None

-- the number of a numeral
abbrev pub numeral_at : SExprTree → Option Literal
numeral_at (One l) = numeral_in l
numeral_at (Group ss) = None

-- what stands between the parentheses
abbrev pub group_at : SExprTree → Option SExprTrees
group_at (One l) = None
group_at (Group ss) = Some ss

-- there is nothing
abbrev pub is_none : SExprTrees → Bool
is_none none = true
is_none (also s ss) = false

-- two parentheses with nothing between them
abbrev pub is_void : SExprTree → Bool
is_void (One l) = false
is_void (Group ss) = is_none ss

-- two, and no more
abbrev pub two_of : SExprTrees → Option (SExprTree × SExprTree)
two_of none = None
two_of (also s none) = None
two_of (also s (also t none)) = Some (s, t)
two_of (also s (also t (also u ss))) = None

-- one, and no more
abbrev pub one_of : SExprTrees → Option SExprTree
one_of none = None
one_of (also s none) = Some s
one_of (also s (also t ss)) = None

-- how many they are
abbrev pub count : SExprTrees → ℕ
count none = 0
count (also s ss) = suc (count ss)

-- one before others, where there are both
abbrev pub put_before : {A : Type 0} → Option A → Option (List A) → Option (List A)
put_before None xs = None
put_before (Some x) None = None
put_before (Some x) (Some xs) = Some (x ∷ xs)

-- what each of them is, where all are something
abbrev pub each_of : {A : Type 0} → (SExprTree → Option A) → SExprTrees → Option (List A)
each_of f none = Some []
each_of f (also s ss) = put_before (f s) (each_of f ss)
