-- The tokens of bytes as the grammar names them.
use Rattle.std.specs.Prelude.{◌≡◌, ℕ, List, [], ◌∷◌, Option, Some, None}
use Rattle.redlog_tokens.specs.declared.ahead.Ahead.{Ahead}
use Rattle.redlog_tokens.specs.declared.ahead.Ahead.TheVariants as ahead
use Rattle.language_meaning.specs.declared.lexer.Front.{Front}
use Rattle.language_meaning.specs.declared.lexer.Front.TheVariants as found
use Rattle.language_meaning.specs.declared.terminal.Terminal.{Terminal}
use Rattle.redlog_tokens.specs.declared.token.Token.{Token}
use Rattle.language_meaning.specs.declared.token.TokenKind.{TokenKind}
use Rattle.language_meaning.specs.Lexing.{front}
use Rattle.redlog_tokens.specs.Longest.{AreTokens}
use Rattle.language_meaning.specs.Terminals.{terminal_of}
use Rattle.redlog_tokens.specs.TerminalList.{terminals}

-- the terminal that a token is; a bad one is none
abbrev pub named : Option TokenKind → Option Terminal
named None = None
named (Some kind) = Some (terminal_of kind)

-- what stands at the front, as the grammar names it
abbrev pub seen : Front → Ahead
seen (found.Space n) = ahead.Space n
seen (found.Token kind n) = ahead.Terminal (named kind) n

-- the number of its bytes
abbrev pub size_ahead : Ahead → ℕ
size_ahead (ahead.Space n) = n
size_ahead (ahead.Terminal kind n) = n

-- what stands at the front of the bytes, of which there is one, as the grammar names it
abbrev pub IsAhead : List ℕ → Ahead → Type 0
IsAhead [] a = ⊥
IsAhead (b ∷ bs) a = seen (front b bs) ≡ a

-- the bytes spell tokens that are these terminals, and none is bad
pub record AreTerminals (bytes : List ℕ) (ts : List Terminal) : Type 0 where
  pub tokens : List Token
  pub spelled : AreTokens bytes tokens
  pub are : terminals tokens ≡ ts
