-- How a script is cut into pieces: after each token ; or $.
use Rattle.std.specs.Prelude.{◌≡◌, ℕ, Bool, true, false, ◌||◌, List, [], ◌∷◌, length, codes, bytes_eq, Option, Some, None}
use Rattle.language_meaning.specs.declared.lexer.Lexeme.{Lexeme}
use Rattle.language_meaning.specs.declared.token.TokenKind.{TokenKind}
use Rattle.language_meaning.specs.declared.token.TokenKind.TheVariants as token
use Rattle.language_meaning.specs.Lexing.{LexesFrom}

-- the token ends a piece
abbrev pub is_end : Option TokenKind → Bool
is_end (Some (token.Sign text)) = bytes_eq text (codes ";") || bytes_eq text (codes "$")
is_end (Some (token.Number n)) = false
is_end (Some (token.Name x)) = false
is_end (Some (token.Word w)) = false
is_end None = false

-- a piece of these tokens ends at this place, and these tokens come after it; the script has this length
pub data Cuts : ℕ → List Lexeme → ℕ → List Lexeme → Type 0 where
  last : {total : ℕ} → Cuts total [] total []
  marked : {total : ℕ} {t : Lexeme} {ts : List Lexeme} → is_end t.kind ≡ true → Cuts total (t ∷ ts) t.end ts
  inside : {total end : ℕ} {t : Lexeme} {ts rest : List Lexeme} → is_end t.kind ≡ false → Cuts total ts end rest → Cuts total (t ∷ ts) end rest

-- no token stands from this place on
abbrev pub HasNoTokenFrom : List ℕ → ℕ → Type 0
HasNoTokenFrom script from = LexesFrom script from []

-- the first token from this place on stands at start, and its piece ends at end
pub record IsPiece (script : List ℕ) (from start end : ℕ) : Type 0 where
  pub first : Lexeme
  pub others : List Lexeme
  pub rest : List Lexeme
  pub tokens : LexesFrom script from (first ∷ others)
  pub begins : first.start ≡ start
  pub cut : Cuts (length script) (first ∷ others) end rest
