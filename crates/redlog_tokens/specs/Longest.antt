-- Tokens said another way: each is the longest at its place. That this is the same is proved.
use Rattle.std.specs.Prelude.{◌≡◌, ℕ, ◌+◌, ◌≤◌, Bool, false, true, ◌&&◌, ◌||◌, List, [], ◌∷◌, length, map, take, drop, Some}
use Rattle.std.specs.List.{list_all}
use Rattle.language_meaning.specs.Names.{is_digit, is_letter, is_name_part, is_one_of}
use Rattle.language_meaning.specs.declared.lexer.Front.{Front}
use Rattle.language_meaning.specs.declared.lexer.Front.TheVariants as found
use Rattle.language_meaning.specs.declared.lexer.Lexeme.{Lexeme}
use Rattle.redlog_tokens.specs.declared.token.Token.{Token}
use Rattle.language_meaning.specs.declared.token.ReadError.{ReadError}
use Rattle.language_meaning.specs.declared.token.ReadError.TheVariants as cause
use Rattle.language_meaning.specs.declared.token.TokenKind.TheVariants as token
use Rattle.language_meaning.specs.Lexing.{long_signs, short_signs, front, Lexes}

-- the number of bytes of what stands at the front
abbrev pub size : Front → ℕ
size (found.Space n) = n
size (found.Token kind n) = n

-- what stands at the front of the bytes, of which there is one
abbrev pub IsFront : List ℕ → Front → Type 0
IsFront [] f = ⊥
IsFront (b ∷ bs) f = front b bs ≡ f

-- a good token with its place
abbrev pub lexeme_of : Token → Lexeme
lexeme_of t = record { kind = Some t.kind; start = t.start; end = t.end }

-- the bytes spell these tokens, and none is bad
abbrev pub AreTokens : List ℕ → List Token → Type 0
AreTokens bytes ts = Lexes bytes 0 (map lexeme_of ts)

-- the reading of tokens ends in Lexical where this holds, or for want of memory
abbrev pub LexicalWhere : ReadError → Type 0 → Type 0
LexicalWhere cause.Lexical P = P
LexicalWhere cause.Memory P = Unit {0}
LexicalWhere cause.Long P = ⊥
LexicalWhere cause.Nesting P = ⊥
LexicalWhere cause.Syntax P = ⊥

-- the text is a token's, good or of a name that is too long: a number is digits, a name or word a letter and then name parts
abbrev pub is_token_text : List ℕ → Bool
is_token_text [] = false
is_token_text (b ∷ bs) =
    (is_digit b && list_all is_digit bs) || ((is_letter b && list_all is_name_part bs) || (is_one_of (b ∷ bs) long_signs || is_one_of (b ∷ bs) short_signs))

-- the bytes begin with a token of this many bytes
pub record BeginWithToken (bytes : List ℕ) (n : ℕ) : Type 0 where
  pub within : n ≤ length bytes
  pub token : is_token_text (take n bytes) ≡ true

-- no longer token begins at the place of this one
abbrev pub IsLongest : List ℕ → Lexeme → Type 0
IsLongest script t = (n : ℕ) → BeginWithToken (drop t.start script) n → t.start + n ≤ t.end

abbrev pub AreLongest : List ℕ → List Lexeme → Type 0
AreLongest script [] = Unit {0}
AreLongest script (t ∷ ts) = IsLongest script t × AreLongest script ts
