-- What stands at the front of bytes, and its size.
use Rattle.std.proofs.Common.{◌≡◌, ℕ, suc, ◌+◌, ◌<◌, Bool, true, false, List, ◌∷◌, length, drop, sym, refl, subst, arith}
use Rattle.std.specs.Prelude.{Option, Some, None, ◌==◌, cond, nat_lt, if◌then◌else◌}
use Rattle.std.specs.List.{prefix_len}
use Rattle.std.proofs.lemmas.Bool.{ltb-true}
use Rattle.language_meaning.specs.Names.{is_digit}
use Rattle.language_meaning.specs.Lexing.{is_blank}
use Rattle.smt_language.specs.declared.lexer.Front.{Front}
use Rattle.smt_language.specs.Lexing.{is_in_bars, symbol_length, fraction_length, closing_quote, closed_at, quoted, barred, keyword, simple, numbered_by, numbered, front}
use Rattle.smt_tokens.specs.Fronts.{size}

pub either : (P : Front → Type 0) (p : Bool) (f g : Front) → (p ≡ true → P f) → (p ≡ false → P g) → P (if p then f else g)
either P true f g x y = x refl
either P false f g x y = y refl

abbrev HasSize : Front → Type 0
HasSize f = 0 < size f

closed_size : (o : Option ℕ) (total : ℕ) → HasSize (closed_at o total)
closed_size (Some n) total = omega arith
closed_size None total = omega arith

quoted_size : (bytes : List ℕ) → HasSize (quoted bytes)
unfolding quoted
quoted_size bytes = closed_size (closing_quote 0 bytes) (length bytes)

barred_size : (bytes : List ℕ) → HasSize (barred bytes)
unfolding barred
barred_size bytes = either HasSize (nat_lt (prefix_len is_in_bars bytes) (length bytes)) _ _ (λ e. omega arith) (λ e. omega arith)

keyword_size : (bytes : List ℕ) → HasSize (keyword bytes)
unfolding keyword
keyword_size bytes = either HasSize (nat_lt 0 (symbol_length bytes)) _ _ (λ e. omega arith) (λ e. omega arith)

simple_size : (bytes : List ℕ) → HasSize (simple bytes)
unfolding simple
simple_size bytes = either HasSize (nat_lt 0 (symbol_length bytes)) _ _ (λ e. ltb-true 0 (symbol_length bytes) e) (λ e. omega arith)

by_size : (bytes : List ℕ) (whole fraction : ℕ) → 0 < whole → HasSize (numbered_by bytes whole fraction)
by_size bytes whole fraction some = either HasSize (nat_lt 0 fraction) _ _ (λ e. omega arith) (λ e. some)

pub some_digit : (b : ℕ) (bs : List ℕ) → is_digit b ≡ true → prefix_len is_digit (b ∷ bs) ≡ suc (prefix_len is_digit bs)
some_digit b bs e = subst (λ d. cond d (1 + prefix_len is_digit bs) 0 ≡ suc (prefix_len is_digit bs)) (sym e) (omega arith)

numbered_size : (b : ℕ) (bs : List ℕ) → is_digit b ≡ true → HasSize (numbered (b ∷ bs))
unfolding numbered
numbered_size b bs e = by_size (b ∷ bs) (prefix_len is_digit (b ∷ bs)) (fraction_length (drop (prefix_len is_digit (b ∷ bs)) (b ∷ bs))) (omega (arith, some_digit b bs e))

-- what stands at the front has a byte at least
pub front_size : (b : ℕ) (bs : List ℕ) → 0 < size (front b bs)
unfolding front
front_size b bs =
    either HasSize (is_blank b) _ _ (λ e. omega arith) (λ e.
    either HasSize (is_digit b) _ _ (λ e. numbered_size b bs e) (λ e.
    either HasSize (b == 59) _ _ (λ e. omega arith) (λ e.
    either HasSize (b == 40) _ _ (λ e. omega arith) (λ e.
    either HasSize (b == 41) _ _ (λ e. omega arith) (λ e.
    either HasSize (b == 34) _ _ (λ e. quoted_size bs) (λ e.
    either HasSize (b == 124) _ _ (λ e. barred_size bs) (λ e.
    either HasSize (b == 58) _ _ (λ e. keyword_size bs) (λ e. simple_size (b ∷ bs)))))))))
