-- Tokens have numerals and names of variables alone.
use Rattle.std.proofs.Common.{◌≡◌, ℕ, suc, ◌+◌, ◌^◌, Bool, true, false, List, [], ◌∷◌, map, length, take, sym, refl, ap, ◌∙◌, subst, arith, rules}
use Rattle.std.specs.Prelude.{cond, ◌&&◌, ◌||◌, nat_lt, pos, Option, Some, None, ◌==◌, if◌then◌else◌}
use Rattle.std.specs.List.{prefix_len, list_all}
use Rattle.language_meaning.specs.declared.tree.Literal.TheVariants.{Fits, Past}
use Rattle.language_meaning.specs.Names.{IsVariable, begins_with_letter, is_word, is_digit, is_letter, is_name_part}
use Rattle.written_syntax.specs.Proper.{IsNumeral}
use Rattle.std.proofs.lemmas.Bool.{ltb-false}
use Rattle.language_meaning.specs.declared.lexer.Front.{Front}
use Rattle.language_meaning.specs.declared.lexer.Front.TheVariants as found
use Rattle.language_meaning.specs.declared.lexer.Lexeme.{Lexeme}
use Rattle.std.proofs.lemmas.Int.{ints}
use Rattle.language_meaning.specs.declared.terminal.Terminal.{Terminal}
use Rattle.language_meaning.specs.declared.terminal.Terminal.TheVariants as terminal
use Rattle.language_meaning.specs.Terminals.{terminal_of, sign_of}
use Rattle.redlog_tokens.specs.TerminalList.{terminals}
use Rattle.redlog_tokens.specs.declared.token.Token.{Token}
use Rattle.language_meaning.specs.declared.token.TokenKind.{TokenKind}
use Rattle.language_meaning.specs.declared.token.TokenKind.TheVariants as token
use Rattle.language_meaning.specs.Lexing.{is_blank, worded, signed, value_after, literal_of, front, Lexes, over, spaced, taken}
use Rattle.redlog_tokens.specs.Longest.{lexeme_of, AreTokens}
use Rattle.redlog_tokens.proofs.Lexed.{of_sign, kinds_head, kinds_tail}

-- each number is a numeral, and each name a variable
abbrev pub AreProperTerminals : List Terminal → Type 0
AreProperTerminals [] = Unit {0}
AreProperTerminals (terminal.Number n ∷ ts) = IsNumeral n × AreProperTerminals ts
AreProperTerminals (terminal.Name x ∷ ts) = IsVariable x × AreProperTerminals ts
AreProperTerminals (terminal.Relation r ∷ ts) = AreProperTerminals ts
AreProperTerminals (terminal.Mark m ∷ ts) = AreProperTerminals ts
AreProperTerminals (terminal.Word w ∷ ts) = AreProperTerminals ts

-- the number of a token is a numeral, and its name one of a variable
abbrev IsProperKind : Option TokenKind → Type 0
IsProperKind None = Unit {0}
IsProperKind (Some (token.Number n)) = IsNumeral n
IsProperKind (Some (token.Name x)) = IsVariable x
IsProperKind (Some (token.Word w)) = Unit {0}
IsProperKind (Some (token.Sign s)) = Unit {0}

abbrev IsProperFront : Front → Type 0
IsProperFront (found.Space n) = Unit {0}
IsProperFront (found.Token kind n) = IsProperKind kind

numeral_if : (n : ℕ) (b : Bool) → nat_lt n (2 ^ 127) ≡ b → IsNumeral (if b then Fits (pos n) else Past)
numeral_if n true e = (omega (arith, ints), search (rules, e))
numeral_if n false e = tt

literal_is_numeral : (ds : List ℕ) → IsNumeral (literal_of ds)
unfolding literal_of
literal_is_numeral ds = numeral_if (value_after 0 ds) (nat_lt (value_after 0 ds) (2 ^ 127)) refl

named_if : (text : List ℕ) → begins_with_letter text ≡ true → list_all is_name_part text ≡ true → (long word : Bool) → nat_lt 64 (length text) ≡ long → is_word text ≡ word
    → IsProperKind (if long then None else (if word then Some (token.Word text) else Some (token.Name text)))
named_if text first parts true word e w = tt
named_if text first parts false true e w = tt
named_if text first parts false false e w = record { begins = first; parts = parts; few = ltb-false 64 (length text) e; free = w }

worded_proper : (text : List ℕ) → begins_with_letter text ≡ true → list_all is_name_part text ≡ true → IsProperKind (worded text)
unfolding worded
worded_proper text first parts = named_if text first parts (nat_lt 64 (length text)) (is_word text) refl refl

all_if : (x : ℕ) (xs : List ℕ) (n : ℕ) (b : Bool) → is_name_part x ≡ b → list_all is_name_part (take n xs) ≡ true → list_all is_name_part (take (cond b (1 + n) 0) (x ∷ xs)) ≡ true
all_if x xs n true e all = let next : 1 + n ≡ suc n = omega arith in subst (λ m. list_all is_name_part (take m (x ∷ xs)) ≡ true) (sym next) (ap (λ b. b && list_all is_name_part (take n xs)) e ∙ all)
all_if x xs n false e all = refl

all_parts : (xs : List ℕ) → list_all is_name_part (take (prefix_len is_name_part xs) xs) ≡ true
all_parts [] = refl
all_parts (x ∷ xs) = all_if x xs (prefix_len is_name_part xs) (is_name_part x) refl (all_parts xs)

letter_name : (b : ℕ) (bs : List ℕ) (n : ℕ) → is_letter b ≡ true → list_all is_name_part (take n bs) ≡ true → IsProperKind (worded (take (1 + n) (b ∷ bs)))
letter_name b bs n letter all =
    let next : 1 + n ≡ suc n = omega arith in
    subst (λ m. IsProperKind (worded (take m (b ∷ bs)))) (sym next)
    (worded_proper (b ∷ take n bs) letter (ap (λ c. (c || is_digit b || (b == 95)) && list_all is_name_part (take n bs)) letter ∙ all))

letter_if : (b : ℕ) (bs : List ℕ) (c : Bool) → is_letter b ≡ c → IsProperFront (signed (b ∷ bs))
    → IsProperFront (if c then found.Token (worded (take (1 + prefix_len is_name_part bs) (b ∷ bs))) (1 + prefix_len is_name_part bs) else signed (b ∷ bs))
letter_if b bs true letter other = letter_name b bs (prefix_len is_name_part bs) letter (all_parts bs)
letter_if b bs false letter other = other

front_if : (p q r : Bool) (f g h i : Front) → IsProperFront f → IsProperFront g → IsProperFront h → IsProperFront i → IsProperFront (if p then f else (if q then g else (if r then h else i)))
front_if true q r f g h i a b c d = a
front_if false true r f g h i a b c d = b
front_if false false true f g h i a b c d = c
front_if false false false f g h i a b c d = d

signed_proper : (bytes : List ℕ) → IsProperFront (signed bytes)
signed_proper bytes = of_sign IsProperFront bytes tt tt tt

front_proper : (b : ℕ) (bs : List ℕ) → IsProperFront (front b bs)
unfolding front
front_proper b bs =
    front_if (is_blank b) (b == 37) (is_digit b) _ _ _ _ tt tt (literal_is_numeral (take (1 + prefix_len is_digit bs) (b ∷ bs))) (letter_if b bs (is_letter b) refl (signed_proper (b ∷ bs)))

abbrev AreProperKinds : List Lexeme → Type 0
AreProperKinds [] = Unit {0}
AreProperKinds (t ∷ ts) = IsProperKind t.kind × AreProperKinds ts

lexes_proper : {bytes : List ℕ} {at : ℕ} {ts : List Lexeme} → Lexes bytes at ts → AreProperKinds ts
lexes_proper over = tt
lexes_proper (spaced e l) = lexes_proper l
lexes_proper (taken {b = b} {bs = bs} e starts ends l) = (subst IsProperFront e (front_proper b bs), lexes_proper l)

-- a sign is no number and no name
abbrev NeedsNothing : Terminal → Type 0
NeedsNothing (terminal.Number n) = ⊥
NeedsNothing (terminal.Name x) = ⊥
NeedsNothing t = Unit {0}

proper_after : (t : Terminal) (ts : List Terminal) → NeedsNothing t → AreProperTerminals ts → AreProperTerminals (t ∷ ts)
proper_after (terminal.Number n) ts h are = absurd h
proper_after (terminal.Name x) ts h are = absurd h
proper_after (terminal.Relation r) ts h are = are
proper_after (terminal.Mark m) ts h are = are
proper_after (terminal.Word w) ts h are = are

sign_needs_nothing : (s : List ℕ) → NeedsNothing (sign_of s)
unfolding sign_of
sign_needs_nothing s = grind arith

terminal_proper : (kind : TokenKind) (ts : List Terminal) → IsProperKind (Some kind) → AreProperTerminals ts → AreProperTerminals (terminal_of kind ∷ ts)
terminal_proper (token.Number n) ts h are = (h, are)
terminal_proper (token.Name x) ts h are = (h, are)
terminal_proper (token.Word w) ts h are = are
terminal_proper (token.Sign s) ts h are = proper_after (sign_of s) ts (sign_needs_nothing s) are

terminals_proper : (ts : List Token) → AreProperKinds (map lexeme_of ts) → AreProperTerminals (map (λ t. terminal_of t.kind) ts)
terminals_proper [] h = tt
terminals_proper (t ∷ ts) h = terminal_proper t.kind (map (λ u. terminal_of u.kind) ts) h.0 (terminals_proper ts h.1)

-- tokens have numerals and variables alone
pub tokens_proper : (bytes : List ℕ) (ts : List Token) → AreTokens bytes ts → AreProperTerminals (terminals ts)
unfolding terminals
tokens_proper bytes ts h = terminals_proper ts (lexes_proper h)

-- the same of the kinds of tokens
kinds_proper : (ts : List Lexeme) (ks : List TokenKind) → map (λ t. t.kind) ts ≡ map Some ks → AreProperKinds ts → AreProperTerminals (map terminal_of ks)
kinds_proper [] [] e h = tt
kinds_proper [] (k ∷ ks) e h = cc
kinds_proper (t ∷ ts) [] e h = cc
kinds_proper (t ∷ ts) (k ∷ ks) e h = terminal_proper k (map terminal_of ks) (subst IsProperKind (kinds_head e) h.0) (kinds_proper ts ks (kinds_tail e) h.1)

pub lexed_proper : {bytes : List ℕ} {at : ℕ} {ts : List Lexeme} (ks : List TokenKind) → Lexes bytes at ts → map (λ t. t.kind) ts ≡ map Some ks → AreProperTerminals (map terminal_of ks)
lexed_proper {ts = ts} ks l e = kinds_proper ts ks e (lexes_proper l)
