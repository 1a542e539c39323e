-- The symbols that stand for no name, and the logics.
use Rattle.std.specs.Prelude.{ℕ, List, [], ◌∷◌, Option, Some, None, codes, bytes_eq, if◌then◌else◌}
use Rattle.logic_meaning.specs.declared.quantifier.Quantifier.TheVariants as quantifier
use Rattle.smt_language.specs.declared.command.Sort.{Sort}
use Rattle.smt_language.specs.declared.command.Sort.TheVariants as sort
use Rattle.smt_language.specs.declared.expression.Operator.TheVariants as operator
use Rattle.smt_language.specs.declared.word.Word.{Word}
use Rattle.smt_language.specs.declared.word.Word.TheVariants as word

-- the reserved symbols, each with what it is
abbrev pub words : List (List ℕ × Word)
words =
    (codes "set-logic", word.SetLogic) ∷ (codes "set-info", word.SetInfo) ∷ (codes "set-option", word.SetOption)
    ∷ (codes "declare-const", word.DeclareConst) ∷ (codes "declare-fun", word.DeclareFun) ∷ (codes "assert", word.Assert)
    ∷ (codes "check-sat", word.CheckSat) ∷ (codes "get-value", word.GetValue) ∷ (codes "exit", word.Exit)
    ∷ (codes "true", word.True) ∷ (codes "false", word.False)
    ∷ (codes "not", word.Operator operator.Not) ∷ (codes "and", word.Operator operator.And) ∷ (codes "or", word.Operator operator.Or) ∷ (codes "=>", word.Operator operator.Implies)
    ∷ (codes "=", word.Operator operator.Equal) ∷ (codes "<", word.Operator operator.Less) ∷ (codes "<=", word.Operator operator.AtMost)
    ∷ (codes ">", word.Operator operator.Greater) ∷ (codes ">=", word.Operator operator.AtLeast) ∷ (codes "distinct", word.Operator operator.Distinct)
    ∷ (codes "_", word.Underscore) ∷ (codes "divisible", word.Divisible)
    ∷ (codes "forall", word.Quantifier quantifier.ForAll) ∷ (codes "exists", word.Quantifier quantifier.Exists) ∷ (codes "let", word.Let)
    ∷ (codes "+", word.Operator operator.Plus) ∷ (codes "*", word.Operator operator.Times) ∷ (codes "-", word.Operator operator.Minus) ∷ (codes "/", word.Operator operator.Divided) ∷ []

-- what the text is, if it is one of these symbols
abbrev pub known : List ℕ → List (List ℕ × Word) → Option Word
known text [] = None
known text (w ∷ ws) = if bytes_eq text w.0 then Some w.1 else known text ws

-- what a symbol is, where it is reserved
unfoldable pub word_of : List ℕ → Option Word
word_of text = known text words

-- the sort of the numbers of a logic
unfoldable pub logic_of : List ℕ → Option Sort
logic_of text =
    if bytes_eq text (codes "LRA") then Some sort.Real
    else (if bytes_eq text (codes "QF_LRA") then Some sort.Real
    else (if bytes_eq text (codes "LIA") then Some sort.Int
    else (if bytes_eq text (codes "QF_LIA") then Some sort.Int
    else None)))
