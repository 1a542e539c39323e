-- The tokens that bytes spell have numerals alone.
use Rattle.std.proofs.Common.{◌≡◌, ℕ, ◌+◌, ◌^◌, Bool, true, false, List, [], ◌∷◌, ◌++◌, length, take, drop, refl, subst, arith, rules}
use Rattle.std.specs.Prelude.{◌&&◌, ◌==◌, nat_lt, nat_le, pos, Option, Some, None, if◌then◌else◌}
use Rattle.std.specs.List.{prefix_len, list_any, AllByRecursion}
use Rattle.std.proofs.lemmas.Int.{ints}
use Rattle.language_meaning.specs.Names.{is_digit}
use Rattle.written_syntax.specs.Proper.{IsNumeral}
use Rattle.language_meaning.specs.declared.tree.Literal.TheVariants.{Fits, Past}
use Rattle.language_meaning.specs.Lexing.{is_blank, value_after, as_literal, literal_of}
use Rattle.smt_language.specs.declared.lexer.Front.{Front}
use Rattle.smt_language.specs.declared.lexer.Front.TheVariants as found
use Rattle.smt_language.specs.declared.token.SmtLexeme.{SmtLexeme}
use Rattle.smt_language.specs.declared.token.SmtToken.{SmtToken}
use Rattle.smt_language.specs.declared.token.SmtToken.TheVariants as token
use Rattle.smt_language.specs.Lexing.{is_in_bars, symbol_length, symbol, simple, keyword, in_bars, barred, closing_quote, closed_at, quoted, is_padded, fraction_length, number, numbered_by, numbered, front, Lexes, over, spaced, taken}
use Rattle.smt_language.specs.Faults.{kinds}
use Rattle.smt_language.specs.Spells.{AreTokens}

-- the numbers of the token are numerals
abbrev pub IsProperToken : SmtToken → Type 0
IsProperToken token.Open = Unit {0}
IsProperToken token.Close = Unit {0}
IsProperToken (token.Numeral n) = IsNumeral n
IsProperToken (token.Decimal n power) = IsNumeral n × IsNumeral power
IsProperToken (token.Symbol x) = Unit {0}
IsProperToken token.Unfit = Unit {0}
IsProperToken token.Text = Unit {0}
IsProperToken token.Keyword = Unit {0}
IsProperToken token.Bad = Unit {0}

-- so are those of each token
abbrev pub AreProperTokens : List SmtToken → Type 0
AreProperTokens ts = AllByRecursion IsProperToken ts

-- so are those of a token at the front
abbrev IsProperFront : Front → Type 0
IsProperFront (found.Space n) = Unit {0}
IsProperFront (found.Token t n) = IsProperToken t

-- what holds of two holds of either
pub either : {X : Type 0} (P : X → Type 0) (b : Bool) (x y : X) → P x → P y → P (if b then x else y)
either P true x y p q = p
either P false x y p q = q

-- ---- numbers

numeral_if : (n : ℕ) (b : Bool) → nat_lt n (2 ^ 127) ≡ b → IsNumeral (if b then Fits (pos n) else Past)
numeral_if n true e = (omega (arith, ints), search (rules, e))
numeral_if n false e = tt

said : (n : ℕ) → IsNumeral (as_literal n)
said n = numeral_if n (nat_lt n (2 ^ 127)) refl

said_by : (ds : List ℕ) → IsNumeral (literal_of ds)
unfolding literal_of
said_by ds = said (value_after 0 ds)

number_proper : (whole fraction : List ℕ) → IsProperToken (number whole fraction)
unfolding number
number_proper whole fraction =
    either IsProperToken (is_padded whole) _ _ tt
    (either IsProperToken (nat_lt 0 (length fraction)) _ _ (said_by (whole ++ fraction), said (10 ^ length fraction)) (said_by whole))

by_proper : (bytes : List ℕ) (whole fraction : ℕ) → IsProperFront (numbered_by bytes whole fraction)
by_proper bytes whole fraction =
    either IsProperFront (nat_lt 0 fraction) _ _ (number_proper (take whole bytes) (take fraction (drop (whole + 1) bytes))) (number_proper (take whole bytes) [])

numbered_proper : (bytes : List ℕ) → IsProperFront (numbered bytes)
unfolding numbered
numbered_proper bytes = by_proper bytes (prefix_len is_digit bytes) (fraction_length (drop (prefix_len is_digit bytes) bytes))

-- ---- symbols, keywords and strings

symbol_proper : (text : List ℕ) → IsProperToken (symbol text)
unfolding symbol
symbol_proper text = either IsProperToken (nat_lt 0 (length text) && nat_le (length text) 64) _ _ tt tt

simple_proper : (bytes : List ℕ) → IsProperFront (simple bytes)
unfolding simple
simple_proper bytes = either IsProperFront (nat_lt 0 (symbol_length bytes)) _ _ (symbol_proper (take (symbol_length bytes) bytes)) tt

keyword_proper : (bytes : List ℕ) → IsProperFront (keyword bytes)
unfolding keyword
keyword_proper bytes = either IsProperFront (nat_lt 0 (symbol_length bytes)) _ _ tt tt

in_bars_proper : (text : List ℕ) → IsProperToken (in_bars text)
unfolding in_bars
in_bars_proper text = either IsProperToken (list_any (λ b. b == 92) text) _ _ tt (symbol_proper text)

barred_proper : (bytes : List ℕ) → IsProperFront (barred bytes)
unfolding barred
barred_proper bytes = either IsProperFront (nat_lt (prefix_len is_in_bars bytes) (length bytes)) _ _ (in_bars_proper (take (prefix_len is_in_bars bytes) bytes)) tt

closed_proper : (o : Option ℕ) (total : ℕ) → IsProperFront (closed_at o total)
closed_proper (Some n) total = tt
closed_proper None total = tt

quoted_proper : (bytes : List ℕ) → IsProperFront (quoted bytes)
unfolding quoted
quoted_proper bytes = closed_proper (closing_quote 0 bytes) (length bytes)

-- ---- tokens

front_proper : (b : ℕ) (bs : List ℕ) → IsProperFront (front b bs)
unfolding front
front_proper b bs =
    either IsProperFront (is_blank b) _ _ tt
    (either IsProperFront (is_digit b) _ _ (numbered_proper (b ∷ bs))
    (either IsProperFront (b == 59) _ _ tt
    (either IsProperFront (b == 40) _ _ tt
    (either IsProperFront (b == 41) _ _ tt
    (either IsProperFront (b == 34) _ _ (quoted_proper bs)
    (either IsProperFront (b == 124) _ _ (barred_proper bs)
    (either IsProperFront (b == 58) _ _ (keyword_proper bs) (simple_proper (b ∷ bs)))))))))

lexes_proper : {bytes : List ℕ} {at : ℕ} {ts : List SmtLexeme} → Lexes bytes at ts → AreProperTokens (kinds ts)
lexes_proper over = tt
lexes_proper (spaced e l) = lexes_proper l
lexes_proper (taken {b = b} {bs = bs} e starts ends l) = (subst IsProperFront e (front_proper b bs), lexes_proper l)

-- the tokens of bytes have numerals alone
pub tokens_proper : (bytes : List ℕ) (ts : List SmtToken) → AreTokens bytes ts → AreProperTokens ts
tokens_proper bytes ts are = subst AreProperTokens are.same (lexes_proper are.lexes)
