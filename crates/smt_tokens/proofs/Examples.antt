-- Worked examples of the definitions. Each side is computed.
use Rattle.std.proofs.Common.{◌≡◌, ℕ, [], ◌∷◌, refl, codes}
use Rattle.std.specs.Prelude.{pos, List, replicate}
use Rattle.language_meaning.specs.declared.tree.Literal.TheVariants.{Fits, Past}
use Rattle.language_meaning.specs.Lexing.{literal_of}
use Rattle.smt_language.specs.declared.lexer.Front.{Front}
use Rattle.smt_language.specs.declared.lexer.Front.TheVariants as found
use Rattle.smt_language.specs.declared.token.SmtLexeme.{SmtLexeme}
use Rattle.smt_language.specs.declared.token.SmtToken.{SmtToken}
use Rattle.smt_language.specs.declared.token.SmtToken.TheVariants as token
use Rattle.smt_language.specs.Lexing.{front, numbered, number, quoted, barred, in_bars, symbol, simple, keyword, Lexes, over, spaced, taken}
use Rattle.smt_language.specs.Commands.{never, here, closed, opened, inside, stops, goes, none, group, loose, AreCommands}

-- what stands at the front of a text
abbrev front_of : List ℕ → Front
front_of [] = found.Space 0
front_of (b ∷ bs) = front b bs

-- a token that is written with its place
abbrev lexeme : SmtToken → ℕ → ℕ → SmtLexeme
lexeme t start end = record { token = t; start = start; end = end }

-- (< 1.5 2)
compared : Lexes (codes "(< 1.5 2)") 0
    (lexeme token.Open 0 1 ∷ lexeme (token.Symbol (codes "<")) 1 2 ∷ lexeme (token.Decimal (Fits (pos 15)) (Fits (pos 10))) 3 6 ∷ lexeme (token.Numeral (Fits (pos 2))) 7 8 ∷ lexeme token.Close 8 9 ∷ [])
unfolding front numbered number literal_of simple symbol
compared = taken refl refl refl (taken refl refl refl (spaced refl (taken refl refl refl (spaced refl (taken refl refl refl (taken refl refl refl over))))))

-- a symbol in bars, which may have a blank, and one that has no byte
in_two_bars : front_of (codes "|a b|c") ≡ found.Token (token.Symbol (codes "a b")) 5
unfolding front barred in_bars symbol
in_two_bars = refl

no_bars : front_of (codes "abc|") ≡ found.Token (token.Symbol (codes "abc")) 3
unfolding front simple symbol
no_bars = refl

no_byte : front_of (codes "||") ≡ found.Token token.Unfit 2
unfolding front barred in_bars symbol
no_byte = refl

backslash : front_of (codes "|a\\b|c|") ≡ found.Token token.Bad 5
unfolding front barred in_bars symbol
backslash = refl

open_bar : front_of (codes "|a ") ≡ found.Token token.Bad 3
unfolding front barred
open_bar = refl

-- two quotes stand for one, so three are an open string
doubled_quote : front_of (codes "\"a\"\"b\"c") ≡ found.Token token.Text 6
unfolding front quoted
doubled_quote = refl

empty_string : front_of (codes "\"\" ") ≡ found.Token token.Text 2
unfolding front quoted
empty_string = refl

three_quotes : front_of (codes "\"\"\"") ≡ found.Token token.Bad 3
unfolding front quoted
three_quotes = refl

open_string : front_of (codes "\"a b") ≡ found.Token token.Bad 4
unfolding front quoted
open_string = refl

-- digits that begin with 0, with and without a point
padded : front_of (codes "007 ") ≡ found.Token token.Bad 3
unfolding front numbered number
padded = refl

padded_decimal : front_of (codes "00.50") ≡ found.Token token.Bad 5
unfolding front numbered number
padded_decimal = refl

small_decimal : front_of (codes "0.50") ≡ found.Token (token.Decimal (Fits (pos 50)) (Fits (pos 100))) 4
unfolding front numbered number literal_of
small_decimal = refl

-- a point without a digit behind it is a symbol
point : Lexes (codes "1.") 0 (lexeme (token.Numeral (Fits (pos 1))) 0 1 ∷ lexeme (token.Symbol (codes ".")) 1 2 ∷ [])
unfolding front numbered number literal_of simple symbol
point = taken refl refl refl (taken refl refl refl over)

-- 2^127 is past the greatest number of a literal
past : front_of (codes "170141183460469231731687303715884105728") ≡ found.Token (token.Numeral Past) 39
unfolding front numbered number literal_of
past = refl

-- 10^39 is past it too
past_power : front_of (codes "1.000000000000000000000000000000000000000") ≡ found.Token (token.Decimal Past Past) 41
unfolding front numbered number literal_of
past_power = refl

-- a comment goes up to the end of the line
comment : Lexes (codes ";(\n;\"\nx") 0 (lexeme (token.Symbol (codes "x")) 6 7 ∷ [])
unfolding front simple symbol
comment = spaced refl (spaced refl (spaced refl (spaced refl (taken refl refl refl over))))

-- no token begins with #
binary : Lexes (codes "#b1") 0 (lexeme token.Bad 0 1 ∷ lexeme (token.Symbol (codes "b1")) 1 3 ∷ [])
unfolding front simple symbol
binary = taken refl refl refl (taken refl refl refl over)

-- keywords
named : front_of (codes ":named ") ≡ found.Token token.Keyword 6
unfolding front keyword
named = refl

colon : front_of (codes ":1") ≡ found.Token token.Bad 1
unfolding front keyword
colon = refl

-- symbols of 64 and of 65 bytes
long_symbol : front_of (replicate 64 97) ≡ found.Token (token.Symbol (replicate 64 97)) 64
unfolding front simple symbol
long_symbol = refl

longer_symbol : front_of (replicate 65 97) ≡ found.Token token.Unfit 65
unfolding front simple symbol
longer_symbol = refl

-- ()x y() is three commands
three : AreCommands (codes "()x y()") (record { start = 0; end = 2 } ∷ record { start = 2; end = 5 } ∷ record { start = 5; end = 7 } ∷ [])
unfolding front simple symbol
three = record {
  tokens = _;
  lexes = taken refl refl refl (taken refl refl refl (taken refl refl refl (spaced refl (taken refl refl refl (taken refl refl refl (taken refl refl refl over))))));
  cuts = group refl (here refl) (loose refl (goes refl (stops refl)) (group refl (here refl) none));
}

-- a closing parenthesis outside is a token like any other, and an open one runs to the end of the bytes
outside : AreCommands (codes ")x (y ") (record { start = 0; end = 2 } ∷ record { start = 3; end = 6 } ∷ [])
unfolding front simple symbol
outside = record {
  tokens = _;
  lexes = taken refl refl refl (taken refl refl refl (spaced refl (taken refl refl refl (taken refl refl refl (spaced refl over)))));
  cuts = loose refl (goes refl (stops refl)) (group refl (inside refl refl never) none);
}

-- parentheses in bars and in strings close nothing
nested : AreCommands (codes "((|)|\")\"))") (record { start = 0; end = 10 } ∷ [])
unfolding front barred in_bars quoted symbol
nested = record {
  tokens = _;
  lexes = taken refl refl refl (taken refl refl refl (taken refl refl refl (taken refl refl refl (taken refl refl refl (taken refl refl refl over)))));
  cuts = group refl (opened refl (inside refl refl (inside refl refl (closed refl (here refl))))) none;
}
