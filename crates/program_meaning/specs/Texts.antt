-- The lines that a script in SMT-LIB is answered with.
use Rattle.std.specs.Prelude.{ℕ, ℤ, pos, negsuc, unsigned_abs, List, [], ◌∷◌, ◌++◌, Bool, not, ◌&&◌, codes, map, nat_eq, if◌then◌else◌}
use Rattle.std.specs.Fmt.{decimal}
use Rattle.std.specs.List.{list_all}
use Rattle.exact_numbers.specs.Frac.{Frac, whole_frac}
use Rattle.language_meaning.specs.Value.{same_name}
use Rattle.smt_language.specs.Lexing.{is_symbol_part, begins_with_digit}

-- ---- symbols

-- the symbol needs no bars: it does not begin with a digit, and consists of letters, digits and the signs of a simple symbol
abbrev pub is_simple : List ℕ → Bool
is_simple x = not (begins_with_digit x) && list_all is_symbol_part x

-- a symbol stands in bars only where it has to
abbrev pub symbol_text : List ℕ → List ℕ
symbol_text x = if is_simple x then x else codes "|" ++ x ++ codes "|"

-- ---- values

-- a numeral, or the quotient of two
abbrev pub quotient_text : ℕ → ℕ → List ℕ
quotient_text n d = if nat_eq d 1 then decimal n else codes "(/ " ++ decimal n ++ codes " " ++ decimal d ++ codes ")"

-- the same under a minus where the numerator is negative
abbrev pub signed_text : ℤ → ℕ → List ℕ
signed_text (pos n) d = quotient_text n d
signed_text (negsuc n) d = codes "(- " ++ quotient_text (unsigned_abs (negsuc n)) d ++ codes ")"

-- the value of a fraction over a positive denominator
abbrev pub value_text : Frac → List ℕ
value_text v = signed_text v.numerator (unsigned_abs v.denominator)

-- a symbol and its value
abbrev pub pair_text : List ℕ → Frac → List ℕ
pair_text x v = codes "(" ++ symbol_text x ++ codes " " ++ value_text v ++ codes ")"

-- the texts with spaces between them
abbrev pub spaced : List (List ℕ) → List ℕ
spaced [] = []
spaced (t ∷ []) = t
spaced (t ∷ u ∷ ts) = t ++ codes " " ++ spaced (u ∷ ts)

-- the value of a declared name
abbrev pub value_among : List (List ℕ) → List Frac → List ℕ → Frac
value_among [] vs x = whole_frac (pos 0)
value_among (d ∷ ds) [] x = whole_frac (pos 0)
value_among (d ∷ ds) (v ∷ vs) x = if same_name x d then v else value_among ds vs x

-- the line of a `get-value` of these symbols, where the declared names have these values
abbrev pub values_text : List (List ℕ) → List Frac → List (List ℕ) → List ℕ
values_text declared vs xs = codes "(" ++ spaced (map (λ x. pair_text x (value_among declared vs x)) xs) ++ codes ")"

-- ---- refusals

-- the line of a refusal: its word, and the offset in the script of the command's first byte
abbrev pub refusal_text : List ℕ → ℕ → List ℕ
refusal_text word offset = codes "(error \"" ++ word ++ codes " at " ++ decimal offset ++ codes "\")"
