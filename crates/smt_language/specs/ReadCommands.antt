-- The command that S-expressions between two parentheses are.
use Rattle.std.specs.Prelude.{ℕ, List, Option, Some, None, if◌then◌else◌}
use Rattle.std.specs.Option.{option_map, option_and_then}
use Rattle.smt_language.specs.declared.command.Sort.{Sort}
use Rattle.smt_language.specs.Trees.{CommandTree, Choose, Ignored, Declare, Assert, Check, Values, Exit}
use Rattle.smt_language.specs.declared.word.Word.{Word}
use Rattle.smt_language.specs.declared.word.Word.TheVariants as word
use Rattle.smt_language.specs.SExprs.{SExprTree, SExprTrees, none, also}
use Rattle.smt_language.specs.Words.{logic_of}
use Rattle.smt_language.specs.SpelledShapes.{symbol_at, word_at, name_at, group_at, one_of, two_of, each_of, is_void}
use Rattle.smt_language.specs.Bindings.{sorted}
use Rattle.smt_language.specs.Expressions.{expression_of}

-- the sort that a logic chooses
abbrev pub logic_at : SExprTree → Option Sort
logic_at s = option_and_then logic_of (symbol_at s)

-- a name and its sort, where no argument stands between them: x () s
abbrev pub constant_of : SExprTrees → Option (SExprTree × SExprTree)
constant_of none = None
constant_of (also x none) = None
constant_of (also x (also g none)) = None
constant_of (also x (also g (also s none))) = if is_void g then Some (x, s) else None
constant_of (also x (also g (also s (also t ss)))) = None

-- names
abbrev pub names_of : SExprTrees → Option (List (List ℕ))
names_of = each_of name_at

-- names, one at least
abbrev pub some_names : SExprTrees → Option (List (List ℕ))
some_names none = None
some_names (also s ss) = names_of (also s ss)

-- what stands between parentheses: names, one at least
abbrev pub asked_at : SExprTree → Option (List (List ℕ))
asked_at s = option_and_then some_names (group_at s)

-- a command that has no more than its name
abbrev pub alone : CommandTree → SExprTrees → Option CommandTree
alone c none = Some c
alone c (also s ss) = None

-- the command that begins with this reserved symbol, and goes on with these
abbrev pub commanded : Option Word → SExprTrees → Option CommandTree
commanded (Some word.SetLogic) ss = option_map Choose (option_and_then logic_at (one_of ss))
commanded (Some word.SetInfo) ss = Some Ignored
commanded (Some word.SetOption) ss = Some Ignored
commanded (Some word.DeclareConst) ss = option_map Declare (option_and_then sorted (two_of ss))
commanded (Some word.DeclareFun) ss = option_map Declare (option_and_then sorted (constant_of ss))
commanded (Some word.Assert) ss = option_map Assert (option_and_then expression_of (one_of ss))
commanded (Some word.CheckSat) ss = alone Check ss
commanded (Some word.GetValue) ss = option_map Values (option_and_then asked_at (one_of ss))
commanded (Some word.Exit) ss = alone Exit ss
commanded w ss = None

-- the command that these are, between two parentheses
abbrev pub command_of : SExprTrees → Option CommandTree
command_of none = None
command_of (also s ss) = commanded (word_at s) ss
