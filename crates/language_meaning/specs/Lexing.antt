-- What bytes spell as tokens: the longest token each time, with blanks and comments between tokens dropped.
use Rattle.std.specs.Prelude.{◌≡◌, ℕ, ◌+◌, ◌-◌, ◌*◌, ◌^◌, Bool, not, ◌||◌, List, [], ◌∷◌, length, ◌⊎◌, take, drop, codes, nat_lt, ◌==◌, if◌then◌else◌, Option, Some, None, pos}
use Rattle.std.specs.List.{prefix_len}
use Rattle.language_meaning.specs.Names.{is_digit, is_letter, is_name_part, is_one_of, is_word}
use Rattle.language_meaning.specs.declared.tree.Literal.{Literal}
use Rattle.language_meaning.specs.declared.tree.Literal.TheVariants.{Fits, Past}
use Rattle.language_meaning.specs.declared.lexer.Front.{Front}
use Rattle.language_meaning.specs.declared.lexer.Front.TheVariants as found
use Rattle.language_meaning.specs.declared.lexer.Lexeme.{Lexeme}
use Rattle.language_meaning.specs.declared.token.ReadError.TheVariants as cause
use Rattle.language_meaning.specs.declared.token.TokenKind.{TokenKind}
use Rattle.language_meaning.specs.declared.token.TokenKind.TheVariants as token

-- tab, line feed, carriage return and space
abbrev pub is_blank : ℕ → Bool
is_blank b = (b == 9) || (b == 10) || (b == 13) || (b == 32)

-- what a comment goes on with: anything but a line feed
abbrev pub is_in_line : ℕ → Bool
is_in_line b = not (b == 10)

-- the number that decimal digits say after digits that say n
abbrev pub value_after : ℕ → List ℕ → ℕ
value_after n [] = n
value_after n (d ∷ ds) = value_after (n * 10 + (d - 48)) ds

-- a number as a literal: Past where it is above 2^127 - 1
abbrev pub as_literal : ℕ → Literal
as_literal n = if nat_lt n (2 ^ 127) then Fits (pos n) else Past

-- the number that decimal digits say
unfoldable pub literal_of : List ℕ → Literal
literal_of digits = as_literal (value_after 0 digits)

-- the signs of two bytes
abbrev pub long_signs : List (List ℕ)
long_signs = codes "**" ∷ codes ":=" ∷ codes "<>" ∷ codes "<=" ∷ codes ">=" ∷ []

-- the signs of one byte
abbrev pub short_signs : List (List ℕ)
short_signs =
    codes "+" ∷ codes "-" ∷ codes "*" ∷ codes "/" ∷ codes "^" ∷ codes "(" ∷ codes ")" ∷ codes "{" ∷ codes "}" ∷ codes ","
    ∷ codes ";" ∷ codes "$" ∷ codes "=" ∷ codes "<" ∷ codes ">" ∷ []

-- a name or a word, which is bad where it has more than 64 bytes
unfoldable pub worded : List ℕ → Option TokenKind
worded text =
    if nat_lt 64 (length text) then None
    else (if is_word text then Some (token.Word text) else Some (token.Name text))

-- a sign, the longer one first; any other byte is bad
unfoldable pub signed : List ℕ → Front
signed bytes =
    if is_one_of (take 2 bytes) long_signs then found.Token (Some (token.Sign (take 2 bytes))) 2
    else (if is_one_of (take 1 bytes) short_signs then found.Token (Some (token.Sign (take 1 bytes))) 1
    else found.Token None 1)

-- what stands at the front of the bytes b ∷ bs, with the number of its bytes
unfoldable pub front : ℕ → List ℕ → Front
front b bs =
    if is_blank b then found.Space 1
    else (if b == 37 then found.Space (1 + prefix_len is_in_line bs)
    else (if is_digit b then found.Token (Some (token.Number (literal_of (take (1 + prefix_len is_digit bs) (b ∷ bs))))) (1 + prefix_len is_digit bs)
    else (if is_letter b then found.Token (worded (take (1 + prefix_len is_name_part bs) (b ∷ bs))) (1 + prefix_len is_name_part bs)
    else signed (b ∷ bs))))

-- the bytes, of which the first stands at this place, spell these tokens; a bad one has no kind
pub data Lexes : List ℕ → ℕ → List Lexeme → Type 0 where
  over : {at : ℕ} → Lexes [] at []
  spaced : {b : ℕ} {bs : List ℕ} {at n : ℕ} {ts : List Lexeme} → front b bs ≡ found.Space n → Lexes (drop n (b ∷ bs)) (at + n) ts → Lexes (b ∷ bs) at ts
  taken : {b : ℕ} {bs : List ℕ} {at n : ℕ} {t : Lexeme} {ts : List Lexeme} → front b bs ≡ found.Token t.kind n → t.start ≡ at → t.end ≡ at + n
      → Lexes (drop n (b ∷ bs)) (at + n) ts → Lexes (b ∷ bs) at (t ∷ ts)

-- the bytes from this place on spell these tokens
abbrev pub LexesFrom : List ℕ → ℕ → List Lexeme → Type 0
LexesFrom script from = Lexes (drop from script) from

-- some token is bad
abbrev pub SomeBad : List Lexeme → Type 0
SomeBad [] = ⊥
SomeBad (t ∷ ts) = (t.kind ≡ None) ⊎ SomeBad ts

-- among the tokens that the bytes spell, some are bad
pub record IsLexical (bytes : List ℕ) : Type 0 where
  pub lexemes : List Lexeme
  pub lexes : Lexes bytes 0 lexemes
  pub bad : SomeBad lexemes
