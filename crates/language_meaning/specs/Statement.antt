-- What the bytes of a piece spell, and why they spell nothing.
use Rattle.std.specs.Prelude.{◌≡◌, ℕ, ◌<◌, ◌≤◌, List, [], map, length, Some}
use Rattle.language_meaning.specs.Statements.{StatementTree}
use Rattle.language_meaning.specs.declared.lexer.Lexeme.{Lexeme}
use Rattle.language_meaning.specs.declared.token.TokenKind.{TokenKind}
use Rattle.language_meaning.specs.Terminals.{terminal_of}
use Rattle.language_meaning.specs.Lexing.{Lexes, IsLexical}
use Rattle.language_meaning.specs.Levels.{Passes}
use Rattle.language_meaning.specs.Grammar.{SpellsStatement}
use Rattle.language_meaning.specs.declared.token.ReadError.{ReadError}
use Rattle.language_meaning.specs.declared.token.ReadError.TheVariants as cause
use Rattle.language_meaning.specs.declared.limit.TheConstants.{BYTE_LIMIT}
use Rattle.language_meaning.specs.declared.level.TheConstants.{LEVEL_LIMIT}

-- the bytes are within the limit, and they are these tokens, none of them bad
pub record AreKinds (bytes : List ℕ) (kinds : List TokenKind) : Type 0 where
  pub lexemes : List Lexeme
  pub short : length bytes ≤ BYTE_LIMIT
  pub lexes : Lexes bytes 0 lexemes
  pub good : map (λ t. t.kind) lexemes ≡ map Some kinds

-- the bytes are within the limit, no token is bad, no level passes 512, and the tokens spell the statement
pub record Spells (bytes : List ℕ) (tree : StatementTree) : Type 0 where
  pub kinds : List TokenKind
  pub tokens : AreKinds bytes kinds
  pub shallow : ¬ Passes LEVEL_LIMIT [] (map terminal_of kinds)
  pub spelled : SpellsStatement (map terminal_of kinds) tree

-- the bytes are within the limit, and a token is bad
pub record HasBadToken (bytes : List ℕ) : Type 0 where
  pub short : length bytes ≤ BYTE_LIMIT
  pub lexical : IsLexical bytes

-- the bytes are within the limit, no token is bad, and a level passes 512
pub record IsDeep (bytes : List ℕ) : Type 0 where
  pub kinds : List TokenKind
  pub tokens : AreKinds bytes kinds
  pub deep : Passes LEVEL_LIMIT [] (map terminal_of kinds)

-- the bytes are within the limit, no token is bad, no level passes 512, and the tokens spell no statement
pub record SpellsNothing (bytes : List ℕ) : Type 0 where
  pub kinds : List TokenKind
  pub tokens : AreKinds bytes kinds
  pub shallow : ¬ Passes LEVEL_LIMIT [] (map terminal_of kinds)
  pub none : (tree : StatementTree) → ¬ (SpellsStatement (map terminal_of kinds) tree)

-- why a piece is not read; nothing is said where memory ran out
abbrev pub Unread : List ℕ → ReadError → Type 0
Unread bytes cause.Long = BYTE_LIMIT < length bytes
Unread bytes cause.Lexical = HasBadToken bytes
Unread bytes cause.Nesting = IsDeep bytes
Unread bytes cause.Syntax = SpellsNothing bytes
Unread bytes cause.Memory = Unit {0}
