-- The terminals of a list of tokens, and words with their texts.
use Rattle.std.specs.Prelude.{ℕ, List, map}
use Rattle.std.specs.Borrow.{Bor}
use Rattle.language_meaning.specs.declared.terminal.Terminal.{Terminal}
use Rattle.language_meaning.specs.declared.terminal.Terminal.TheVariants as terminal
use Rattle.language_meaning.specs.declared.terminal.Mark.TheVariants as mark
use Rattle.language_meaning.specs.declared.terminal.Word.{Word}
use Rattle.language_meaning.specs.declared.terminal.Word.TheVariants as word
use Rattle.redlog_tokens.specs.declared.token.Token.{Token}
use Rattle.language_meaning.specs.declared.token.TokenKind.TheVariants as token
use Rattle.language_meaning.specs.Terminals.{terminal_of}

-- a word of the code with what it is
abbrev pub word_pair : Bor (List ℕ) × Word → List ℕ × Word
word_pair w = (w.0.now, w.1)

-- the terminals that tokens are
unfoldable pub terminals : List Token → List Terminal
terminals = map (λ t. terminal_of t.kind)
