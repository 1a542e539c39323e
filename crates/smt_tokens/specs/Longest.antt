-- Tokens said another way: which texts are tokens, and that each token is the longest at its place.
use Rattle.std.specs.Prelude.{◌≡◌, ℕ, ◌+◌, ◌<◌, ◌≤◌, Bool, true, false, not, ◌||◌, List, [], ◌∷◌, ◌++◌, length, drop, codes, ◌==◌}
use Rattle.std.specs.List.{list_all}
use Rattle.language_meaning.specs.Names.{is_digit}
use Rattle.smt_language.specs.declared.token.SmtLexeme.{SmtLexeme}
use Rattle.smt_language.specs.declared.token.SmtToken.TheVariants as token
use Rattle.smt_language.specs.Lexing.{is_symbol_part, is_padded}

-- what a string has between its quotes: each quote in it is doubled
pub data IsQuoted : List ℕ → Type 0 where
  nothing : IsQuoted []
  other : {b : ℕ} {bs : List ℕ} → (b == 34) ≡ false → IsQuoted bs → IsQuoted (b ∷ bs)
  doubled : {bs : List ℕ} → IsQuoted bs → IsQuoted (34 ∷ 34 ∷ bs)

-- what a symbol in bars has between them
abbrev pub is_barred : ℕ → Bool
is_barred b = not ((b == 124) || (b == 92))

-- one digit or more, the first of more than one not 0
pub record IsNumeral (digits : List ℕ) : Type 0 where
  pub some : 0 < length digits
  pub all : list_all is_digit digits ≡ true
  pub first : is_padded digits ≡ false

-- a simple symbol, which has at least a byte
pub record IsSimple (text : List ℕ) : Type 0 where
  pub first : ℕ
  pub others : List ℕ
  pub bytes : text ≡ first ∷ others
  pub no_digit : is_digit first ≡ false
  pub all : list_all is_symbol_part text ≡ true

-- the text is a token's that is not bad, fit or not
pub data IsToken : List ℕ → Type 0 where
  opening : IsToken (codes "(")
  closing : IsToken (codes ")")
  numeral : {digits : List ℕ} → IsNumeral digits → IsToken digits
  decimal : (digits fraction : List ℕ) → IsNumeral digits → 0 < length fraction → list_all is_digit fraction ≡ true → IsToken (digits ++ (codes "." ++ fraction))
  string : (text : List ℕ) → IsQuoted text → IsToken (34 ∷ (text ++ (34 ∷ [])))
  simple : {text : List ℕ} → IsSimple text → IsToken text
  barred : (text : List ℕ) → list_all is_barred text ≡ true → IsToken (124 ∷ (text ++ (124 ∷ [])))
  keyword : {text : List ℕ} → IsSimple text → IsToken (58 ∷ text)

-- No longer token begins at the place of this one. A shorter one may begin at the place of a bad one: 0 where 007 is bad, and "" where
-- an open string begins with three quotes.
abbrev pub IsLongest : List ℕ → SmtLexeme → Type 0
IsLongest script t = (text rest : List ℕ) → IsToken text → drop t.start script ≡ text ++ rest → t.start + length text ≤ t.end

abbrev pub AreLongest : List ℕ → List SmtLexeme → Type 0
AreLongest script [] = Unit {0}
AreLongest script (t ∷ ts) = IsLongest script t × AreLongest script ts

-- the text of this token is a token's
pub record IsText (script : List ℕ) (t : SmtLexeme) : Type 0 where
  pub text : List ℕ
  pub rest : List ℕ
  pub is : IsToken text
  pub begins : drop t.start script ≡ text ++ rest
  pub ends : t.start + length text ≡ t.end

-- so it is with all that are not bad
abbrev pub AreTexts : List ℕ → List SmtLexeme → Type 0
AreTexts script [] = Unit {0}
AreTexts script (t ∷ ts) = (¬ (t.token ≡ token.Bad) → IsText script t) × AreTexts script ts
