-- Commands that bytes spell have numerals alone, and positive divisors.
use Rattle.std.proofs.Common.{[], sym, subst}
use Rattle.std.specs.Prelude.{Option, Some, None, IfSome}
use Rattle.std.specs.Option.{option_map, option_and_then}
use Rattle.smt_language.specs.Trees.{CommandTree, Choose, Declare, Assert, Check, Values, Exit, ExpressionTree}
use Rattle.smt_language.specs.declared.word.Word.{Word}
use Rattle.smt_language.specs.declared.word.Word.TheVariants as word
use Rattle.smt_language.specs.SExprs.{SExprTrees, Group, none, also}
use Rattle.smt_language.specs.SpelledShapes.{word_at, one_of, two_of}
use Rattle.smt_language.specs.Bindings.{sorted}
use Rattle.smt_language.specs.ReadCommands.{logic_at, constant_of, asked_at, alone, commanded, command_of}
use Rattle.smt_language.specs.Expressions.{expression_of}
use Rattle.smt_meaning.specs.Proper.{IsProper}
use Rattle.smt_theorems.specs.Commands.{HasProperNumbers, SpelledCommandsAreProper}
use Rattle.smt_theorems.proofs.ProperTokens.{AreProperTokens, tokens_proper}
use Rattle.smt_theorems.proofs.ProperTrees.{AreProperTrees, tree_proper}
use Rattle.smt_theorems.proofs.ProperExpressions.{expression_proper}

-- no command that is made so has a number of its own
numberless : {X : Type 0} (f : X → CommandTree) (o : Option X) → ((x : X) → HasProperNumbers (f x)) → IfSome (option_map f o) HasProperNumbers
numberless f None h = tt
numberless f (Some x) h = h x

alone_proper : (c : CommandTree) (ss : SExprTrees) → HasProperNumbers c → IfSome (alone c ss) HasProperNumbers
alone_proper c none h = h
alone_proper c (also s ss) h = tt

assertion : (e : Option ExpressionTree) → IfSome e IsProper → IfSome (option_map Assert e) HasProperNumbers
assertion None h = tt
assertion (Some e) h = h

asserted : (ss : SExprTrees) → AreProperTrees ss → IfSome (option_map Assert (option_and_then expression_of (one_of ss))) HasProperNumbers
asserted none h = tt
asserted (also s none) h = assertion (expression_of s) (expression_proper s h.0)
asserted (also s (also t ss)) h = tt

commanded_proper : (w : Option Word) (ss : SExprTrees) → AreProperTrees ss → IfSome (commanded w ss) HasProperNumbers
commanded_proper (Some word.SetLogic) ss h = numberless Choose (option_and_then logic_at (one_of ss)) (λ x. tt)
commanded_proper (Some word.SetInfo) ss h = tt
commanded_proper (Some word.SetOption) ss h = tt
commanded_proper (Some word.DeclareConst) ss h = numberless Declare (option_and_then sorted (two_of ss)) (λ x. tt)
commanded_proper (Some word.DeclareFun) ss h = numberless Declare (option_and_then sorted (constant_of ss)) (λ x. tt)
commanded_proper (Some word.Assert) ss h = asserted ss h
commanded_proper (Some word.CheckSat) ss h = alone_proper Check ss tt
commanded_proper (Some word.GetValue) ss h = numberless Values (option_and_then asked_at (one_of ss)) (λ x. tt)
commanded_proper (Some word.Exit) ss h = alone_proper Exit ss tt
commanded_proper w ss h = tt

command_proper : (ss : SExprTrees) → AreProperTrees ss → IfSome (command_of ss) HasProperNumbers
command_proper none h = tt
command_proper (also s ss) h = commanded_proper (word_at s) ss h.1

-- each command that bytes spell has proper numbers
pub spelled_proper : SpelledCommandsAreProper
spelled_proper bytes command h =
    let says = h.says in
    let written = subst AreProperTokens (sym says.written) (tokens_proper bytes h.tokens h.good.are) in
    let trees = tree_proper (Group says.members) [] written in
    subst (λ (o : Option CommandTree). IfSome o HasProperNumbers) says.is (command_proper says.members trees.0)
