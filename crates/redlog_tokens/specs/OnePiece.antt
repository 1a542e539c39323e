-- The first piece of a script, when it is the only one, and when others follow.
use Rattle.std.specs.Prelude.{◌≡◌, ℕ, ◌-◌, List, length, take, drop}
use Rattle.language_meaning.specs.declared.lexer.Lexeme.{Lexeme}
use Rattle.language_meaning.specs.declared.token.TokenKind.TheVariants as token
use Rattle.language_meaning.specs.Lexing.{LexesFrom}
use Rattle.language_meaning.specs.Pieces.{Cuts, HasNoTokenFrom, IsPiece}

-- a piece that goes on at this place, or begins there or later, ends at end
pub record EndsFrom (script : List ℕ) (from end : ℕ) : Type 0 where
  pub tokens : List Lexeme
  pub rest : List Lexeme
  pub lexes : LexesFrom script from tokens
  pub cut : Cuts (length script) tokens end rest

-- the script has no token
abbrev pub HasNoToken : List ℕ → Type 0
HasNoToken script = HasNoTokenFrom script 0

-- the script has exactly one piece: it begins at its first token's offset, and these are its bytes
pub record IsOnlyPiece (script : List ℕ) (offset : ℕ) (piece : List ℕ) : Type 0 where
  pub end : ℕ
  pub first : IsPiece script 0 offset end
  pub bytes : piece ≡ take (end - offset) (drop offset script)
  pub no_more : HasNoTokenFrom script end

-- the script has a first piece, which begins at this offset, and more pieces after it
pub record HasMorePieces (script : List ℕ) (offset : ℕ) : Type 0 where
  pub end : ℕ
  pub first : IsPiece script 0 offset end
  pub next_start : ℕ
  pub next_end : ℕ
  pub more : IsPiece script end next_start next_end
