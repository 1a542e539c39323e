-- What bytes spell as tokens of SMT-LIB: the longest token each time, with blanks and comments between tokens dropped.
use Rattle.std.specs.Prelude.{◌≡◌, ℕ, ◌+◌, ◌^◌, Bool, false, not, ◌||◌, ◌&&◌, List, [], ◌∷◌, ◌++◌, length, take, drop, codes, nat_lt, nat_le, ◌==◌, if◌then◌else◌, Option, Some, None}
use Rattle.std.specs.List.{prefix_len, list_any}
use Rattle.language_meaning.specs.Names.{is_digit, is_letter}
use Rattle.language_meaning.specs.Lexing.{is_blank, is_in_line, as_literal, literal_of}
use Rattle.smt_language.specs.declared.lexer.Front.{Front}
use Rattle.smt_language.specs.declared.lexer.Front.TheVariants as found
use Rattle.smt_language.specs.declared.token.SmtLexeme.{SmtLexeme}
use Rattle.smt_language.specs.declared.token.SmtToken.{SmtToken}
use Rattle.smt_language.specs.declared.token.SmtToken.TheVariants as token

-- what a simple symbol consists of: letters, digits and 17 signs
abbrev pub is_symbol_part : ℕ → Bool
is_symbol_part b = is_letter b || is_digit b || list_any (λ c. b == c) (codes "~!@$%^&*_-+=<>.?/")

abbrev pub begins_with_digit : List ℕ → Bool
begins_with_digit [] = false
begins_with_digit (b ∷ bs) = is_digit b

-- how many bytes at the front are of a simple symbol, which does not begin with a digit
abbrev pub symbol_length : List ℕ → ℕ
symbol_length bytes = if begins_with_digit bytes then 0 else prefix_len is_symbol_part bytes

-- the symbol of these bytes, which is unfit where they are none or more than 64
unfoldable pub symbol : List ℕ → SmtToken
symbol text = if nat_lt 0 (length text) && nat_le (length text) 64 then token.Symbol text else token.Unfit

-- a simple symbol; any other byte is bad
unfoldable pub simple : List ℕ → Front
simple bytes =
    if nat_lt 0 (symbol_length bytes) then found.Token (symbol (take (symbol_length bytes) bytes)) (symbol_length bytes)
    else found.Token token.Bad 1

-- what follows the colon of a keyword; a colon alone is bad
unfoldable pub keyword : List ℕ → Front
keyword bytes = if nat_lt 0 (symbol_length bytes) then found.Token token.Keyword (1 + symbol_length bytes) else found.Token token.Bad 1

-- anything but a bar
abbrev pub is_in_bars : ℕ → Bool
is_in_bars b = not (b == 124)

-- what these bytes are between bars: a symbol, which has no backslash
unfoldable pub in_bars : List ℕ → SmtToken
in_bars text = if list_any (λ b. b == 92) text then token.Bad else symbol text

-- what follows the first bar of a symbol: all bytes up to the next one, which is bad where there is none
unfoldable pub barred : List ℕ → Front
barred bytes =
    if nat_lt (prefix_len is_in_bars bytes) (length bytes)
    then found.Token (in_bars (take (prefix_len is_in_bars bytes) bytes)) (2 + prefix_len is_in_bars bytes)
    else found.Token token.Bad (1 + length bytes)

-- the place of the quote that closes a string, of which these bytes stand from this place on: the first that is not doubled
abbrev pub closing_quote : ℕ → List ℕ → Option ℕ
closing_quote at [] = None
closing_quote at (b ∷ []) = if b == 34 then Some at else None
closing_quote at (b ∷ c ∷ cs) = if b == 34 then (if c == 34 then closing_quote (at + 2) cs else Some at) else closing_quote (at + 1) (c ∷ cs)

-- a string up to the quote that closes it, with so many bytes behind the first one; it is bad where none does
abbrev pub closed_at : Option ℕ → ℕ → Front
closed_at (Some n) total = found.Token token.Text (2 + n)
closed_at None total = found.Token token.Bad (1 + total)

-- what follows the first quote of a string
unfoldable pub quoted : List ℕ → Front
quoted bytes = closed_at (closing_quote 0 bytes) (length bytes)

-- more digits than one, of which the first is 0
abbrev pub is_padded : List ℕ → Bool
is_padded [] = false
is_padded (d ∷ ds) = (d == 48) && nat_lt 0 (length ds)

-- how many digits stand behind a point at the front
abbrev pub fraction_length : List ℕ → ℕ
fraction_length [] = 0
fraction_length (b ∷ bs) = if b == 46 then prefix_len is_digit bs else 0

-- the number of these digits before a point and behind it, if there are any: all digits as one numeral, over a power of 10
unfoldable pub number : List ℕ → List ℕ → SmtToken
number whole fraction =
    if is_padded whole then token.Bad
    else (if nat_lt 0 (length fraction) then token.Decimal (literal_of (whole ++ fraction)) (as_literal (10 ^ length fraction))
    else token.Numeral (literal_of whole))

-- a numeral or a decimal
abbrev pub numbered_by : List ℕ → ℕ → ℕ → Front
numbered_by bytes whole fraction =
    if nat_lt 0 fraction then found.Token (number (take whole bytes) (take fraction (drop (whole + 1) bytes))) (whole + 1 + fraction)
    else found.Token (number (take whole bytes) []) whole

unfoldable pub numbered : List ℕ → Front
numbered bytes = numbered_by bytes (prefix_len is_digit bytes) (fraction_length (drop (prefix_len is_digit bytes) bytes))

-- what stands at the front of the bytes b ∷ bs, with the number of its bytes
unfoldable pub front : ℕ → List ℕ → Front
front b bs =
    if is_blank b then found.Space 1
    else (if is_digit b then numbered (b ∷ bs)
    else (if b == 59 then found.Space (1 + prefix_len is_in_line bs)
    else (if b == 40 then found.Token token.Open 1
    else (if b == 41 then found.Token token.Close 1
    else (if b == 34 then quoted bs
    else (if b == 124 then barred bs
    else (if b == 58 then keyword bs
    else simple (b ∷ bs))))))))

-- the bytes, of which the first stands at this place, spell these tokens, bad ones among them
pub data Lexes : List ℕ → ℕ → List SmtLexeme → Type 0 where
  over : {at : ℕ} → Lexes [] at []
  spaced : {b : ℕ} {bs : List ℕ} {at n : ℕ} {ts : List SmtLexeme} → front b bs ≡ found.Space n → Lexes (drop n (b ∷ bs)) (at + n) ts → Lexes (b ∷ bs) at ts
  taken : {b : ℕ} {bs : List ℕ} {at n : ℕ} {t : SmtLexeme} {ts : List SmtLexeme} → front b bs ≡ found.Token t.token n → t.start ≡ at → t.end ≡ at + n
      → Lexes (drop n (b ∷ bs)) (at + n) ts → Lexes (b ∷ bs) at (t ∷ ts)
