-- Tokens as the grammar names them.
use Rattle.std.specs.Prelude.{ℕ, List, [], ◌∷◌, Option, Some, None, codes, bytes_eq, unwrap_or, if◌then◌else◌}
use Rattle.language_meaning.specs.declared.tree.Relation.TheVariants.{Equal, Differs, Less, AtMost, Greater, AtLeast}
use Rattle.language_meaning.specs.declared.terminal.Terminal.{Terminal}
use Rattle.language_meaning.specs.declared.terminal.Terminal.TheVariants as terminal
use Rattle.language_meaning.specs.declared.terminal.Mark.TheVariants as mark
use Rattle.language_meaning.specs.declared.terminal.Word.{Word}
use Rattle.language_meaning.specs.declared.terminal.Word.TheVariants as word
use Rattle.language_meaning.specs.declared.token.TokenKind.{TokenKind}
use Rattle.language_meaning.specs.declared.token.TokenKind.TheVariants as token

-- the words, but for those with numbers, each with what it is to the grammar: Other where no statement begins with it so far
abbrev pub words : List (List ℕ × Word)
words =
    (codes "true", word.True) ∷ (codes "false", word.False) ∷ (codes "not", word.Not) ∷ (codes "and", word.And) ∷ (codes "or", word.Or) ∷ (codes "impl", word.Impl) ∷ (codes "repl", word.Repl) ∷ (codes "equiv", word.Equiv)
    ∷ (codes "ex", word.Ex) ∷ (codes "all", word.All) ∷ (codes "cong", word.Cong) ∷ (codes "ncong", word.Ncong) ∷ (codes "neq", word.Neq)
    ∷ (codes "rlset", word.Set) ∷ (codes "rlnnf", word.Nnf) ∷ (codes "rlpnf", word.Pnf) ∷ (codes "rldnf", word.Dnf) ∷ (codes "rlcnf", word.Cnf) ∷ (codes "rlsimpl", word.Simpl) ∷ (codes "rlqe", word.Qe) ∷ (codes "rlqea", word.Qea)
    ∷ (codes "rlholds", word.Holds) ∷ (codes "rlwitness", word.Witness) ∷ (codes "rlassume", word.Assume) ∷ (codes "rlretract", word.Retract) ∷ (codes "rlgrid", word.Grid) ∷ (codes "rlopt", word.Opt) ∷ (codes "rlcert", word.Cert) ∷ (codes "rlcheck", word.Check)
    ∷ (codes "load_package", word.Load) ∷ (codes "on", word.On) ∷ (codes "off", word.Off) ∷ (codes "end", word.End) ∷ (codes "bye", word.Bye) ∷ (codes "quit", word.Quit) ∷ []

-- what the text is, if it is one of these words
abbrev pub known : List ℕ → List (List ℕ × Word) → Option Word
known text [] = None
known text (w ∷ ws) = if bytes_eq text w.0 then Some w.1 else known text ws

-- the word that a text is
unfoldable pub word_of : List ℕ → Word
word_of text = unwrap_or (known text words) word.Other

-- the terminal that a sign is; no token is another sign than these
unfoldable pub sign_of : List ℕ → Terminal
sign_of sign =
    if bytes_eq sign (codes "+") then terminal.Mark mark.Plus
    else (if bytes_eq sign (codes "-") then terminal.Mark mark.Minus
    else (if bytes_eq sign (codes "*") then terminal.Mark mark.Times
    else (if bytes_eq sign (codes "/") then terminal.Mark mark.Slash
    else (if bytes_eq sign (codes "^") then terminal.Mark mark.Power
    else (if bytes_eq sign (codes "**") then terminal.Mark mark.Power
    else (if bytes_eq sign (codes "(") then terminal.Mark mark.Open
    else (if bytes_eq sign (codes ")") then terminal.Mark mark.Close
    else (if bytes_eq sign (codes "{") then terminal.Mark mark.OpenBrace
    else (if bytes_eq sign (codes "}") then terminal.Mark mark.CloseBrace
    else (if bytes_eq sign (codes ",") then terminal.Mark mark.Comma
    else (if bytes_eq sign (codes ";") then terminal.Mark mark.Semicolon
    else (if bytes_eq sign (codes "$") then terminal.Mark mark.Dollar
    else (if bytes_eq sign (codes ":=") then terminal.Mark mark.Assign
    else (if bytes_eq sign (codes "=") then terminal.Relation Equal
    else (if bytes_eq sign (codes "<>") then terminal.Relation Differs
    else (if bytes_eq sign (codes "<") then terminal.Relation Less
    else (if bytes_eq sign (codes "<=") then terminal.Relation AtMost
    else (if bytes_eq sign (codes ">") then terminal.Relation Greater
    else (if bytes_eq sign (codes ">=") then terminal.Relation AtLeast
    else terminal.Word word.Other)))))))))))))))))))

-- the terminal that a token is
abbrev pub terminal_of : TokenKind → Terminal
terminal_of (token.Number n) = terminal.Number n
terminal_of (token.Name x) = terminal.Name x
terminal_of (token.Word w) = terminal.Word (word_of w)
terminal_of (token.Sign s) = sign_of s
