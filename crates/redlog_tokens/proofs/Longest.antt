-- No longer token begins at a token's place.
use Rattle.std.proofs.Common.{◌≡◌, ℕ, zero, suc, ◌+◌, ◌≤◌, Bool, true, false, List, [], ◌∷◌, length, take, drop, sym, refl, ap, ◌∙◌, subst, inl, inr, arith, drop-drop}
use Rattle.std.specs.Prelude.{cond, not, ◌&&◌, ◌||◌, ◌==◌, ◌⊎◌, bytes_eq}
use Rattle.std.specs.List.{prefix_len, list_all}
use Rattle.std.specs.Cmp.Lexicographic.{bytes_decides}
use Rattle.language_meaning.specs.Names.{is_digit, is_letter, is_name_part, is_one_of}
use Rattle.language_meaning.specs.declared.lexer.Lexeme.{Lexeme}
use Rattle.language_meaning.specs.Lexing.{is_blank, long_signs, short_signs, signed, front, Lexes, over, spaced, taken}
use Rattle.redlog_tokens.specs.Longest.{size, BeginWithToken, IsLongest, AreLongest}
use Rattle.redlog_tokens.proofs.Lexed.{front_size}

pub both : (p q : Bool) → (p && q) ≡ true → (p ≡ true) × (q ≡ true)
both true q h = (refl, h)
both false q h = cc

pub one_of : (p q : Bool) → (p || q) ≡ true → (p ≡ true) ⊎ (q ≡ true)
one_of true q h = inl refl
one_of false q h = inr h

-- as many at the front pass as a longest front of which all pass
pub at_least : (p : ℕ → Bool) (xs : List ℕ) (m : ℕ) → m ≤ length xs → list_all p (take m xs) ≡ true → m ≤ prefix_len p xs
at_least p xs zero within all = omega arith
at_least p [] (suc m) within all = absurd (omega (arith, within))
at_least p (x ∷ xs) (suc m) within all =
    let parts = both (p x) (list_all p (take m xs)) all in
    let rest = at_least p xs m (omega (arith, within)) parts.1 in
    subst (λ b. suc m ≤ cond b (1 + prefix_len p xs) 0) (sym parts.0) (omega (arith, rest))

either : {P Q R : Type 0} → P ⊎ Q → (P → R) → (Q → R) → R
either (inl p) f g = f p
either (inr q) f g = g q

-- what holds of all words holds of a text that is one of them
of_word : (q : List ℕ → Bool) (text : List ℕ) (ws : List (List ℕ)) → list_all q ws ≡ true → is_one_of text ws ≡ true → q text ≡ true
of_word q text [] all is = cc
of_word q text (w ∷ ws) all is =
    let parts = both (q w) (list_all q ws) all in
    either (one_of (bytes_eq text w) (is_one_of text ws) is) (λ same. ap q ((bytes_decides text w).0 same) ∙ parts.0) (of_word q text ws parts.1)

-- no blank, comment, number or name begins so
abbrev begins_sign : ℕ → Bool
begins_sign b = not (is_blank b || (b == 37) || is_digit b || is_letter b)

abbrev is_of_two : List ℕ → Bool
is_of_two (b ∷ c ∷ []) = begins_sign b
is_of_two _ = false

abbrev is_of_one : List ℕ → Bool
is_of_one (b ∷ []) = begins_sign b
is_of_one _ = false

-- the size of the front where a number, a name or a sign begins
size_of_number : (b : ℕ) (bs : List ℕ) → is_digit b ≡ true → size (front b bs) ≡ 1 + prefix_len is_digit bs
unfolding front
size_of_number b bs h = grind arith

size_of_name : (b : ℕ) (bs : List ℕ) → is_letter b ≡ true → 1 + prefix_len is_name_part bs ≤ size (front b bs)
unfolding front
size_of_name b bs h = grind arith

size_of_sign : (b : ℕ) (bs : List ℕ) → begins_sign b ≡ true → front b bs ≡ signed (b ∷ bs)
unfolding front
size_of_sign b bs h = grind arith

size_of_two : (bytes : List ℕ) → is_one_of (take 2 bytes) long_signs ≡ true → size (signed bytes) ≡ 2
unfolding signed
size_of_two bytes h = rw h

-- a sign of two bytes is taken where one begins
two : (b : ℕ) (bs : List ℕ) (m : ℕ) → m ≤ length bs → is_one_of (b ∷ take m bs) long_signs ≡ true → suc m ≤ size (front b bs)
two b bs zero within h = omega (arith, front_size b bs)
two b [] (suc m) within h = absurd (omega (arith, within))
two b (c ∷ cs) (suc zero) within h =
    let begins : begins_sign b ≡ true = of_word is_of_two (b ∷ c ∷ []) long_signs refl h in
    let taken = ap size (size_of_sign b (c ∷ cs) begins) ∙ size_of_two (b ∷ c ∷ cs) h in
    omega (arith, taken)
two b (c ∷ []) (suc (suc m)) within h = absurd (omega (arith, within))
two b (c ∷ d ∷ ds) (suc (suc m)) within h = let none : is_of_two (b ∷ c ∷ d ∷ take m ds) ≡ true = of_word is_of_two (b ∷ c ∷ d ∷ take m ds) long_signs refl h in cc

one : (b : ℕ) (bs : List ℕ) (m : ℕ) → m ≤ length bs → is_one_of (b ∷ take m bs) short_signs ≡ true → suc m ≤ size (front b bs)
one b bs zero within h = omega (arith, front_size b bs)
one b [] (suc m) within h = absurd (omega (arith, within))
one b (c ∷ cs) (suc m) within h = let none : is_of_one (b ∷ c ∷ take m cs) ≡ true = of_word is_of_one (b ∷ c ∷ take m cs) short_signs refl h in cc

number : (b : ℕ) (bs : List ℕ) (m : ℕ) → m ≤ length bs → (is_digit b && list_all is_digit (take m bs)) ≡ true → suc m ≤ size (front b bs)
number b bs m within h =
    let parts = both (is_digit b) (list_all is_digit (take m bs)) h in
    omega (arith, size_of_number b bs parts.0, at_least is_digit bs m within parts.1)

name : (b : ℕ) (bs : List ℕ) (m : ℕ) → m ≤ length bs → (is_letter b && list_all is_name_part (take m bs)) ≡ true → suc m ≤ size (front b bs)
name b bs m within h =
    let parts = both (is_letter b) (list_all is_name_part (take m bs)) h in
    omega (arith, size_of_name b bs parts.0, at_least is_name_part bs m within parts.1)

front_longest_if : (b : ℕ) (bs : List ℕ) (m : ℕ) → m ≤ length bs
    → (((is_digit b && list_all is_digit (take m bs)) ≡ true) ⊎ (((is_letter b && list_all is_name_part (take m bs)) || (is_one_of (b ∷ take m bs) long_signs || is_one_of (b ∷ take m bs) short_signs)) ≡ true))
    → suc m ≤ size (front b bs)
front_longest_if b bs m within (inl h) = number b bs m within h
front_longest_if b bs m within (inr h) = other (one_of (is_letter b && list_all is_name_part (take m bs)) (is_one_of (b ∷ take m bs) long_signs || is_one_of (b ∷ take m bs) short_signs) h)
  where
    sign : (is_one_of (b ∷ take m bs) long_signs ≡ true) ⊎ (is_one_of (b ∷ take m bs) short_signs ≡ true) → suc m ≤ size (front b bs)
    sign (inl h) = two b bs m within h
    sign (inr h) = one b bs m within h

    other : ((is_letter b && list_all is_name_part (take m bs)) ≡ true) ⊎ ((is_one_of (b ∷ take m bs) long_signs || is_one_of (b ∷ take m bs) short_signs) ≡ true) → suc m ≤ size (front b bs)
    other (inl h) = name b bs m within h
    other (inr h) = sign (one_of (is_one_of (b ∷ take m bs) long_signs) (is_one_of (b ∷ take m bs) short_signs) h)

front_longest : (b : ℕ) (bs : List ℕ) (n : ℕ) → BeginWithToken (b ∷ bs) n → n ≤ size (front b bs)
front_longest b bs zero begins = omega arith
front_longest b bs (suc m) begins = front_longest_if b bs m (omega (arith, begins.within)) (one_of (is_digit b && list_all is_digit (take m bs)) _ begins.token)

token_longest : (script : List ℕ) (t : Lexeme) (b : ℕ) (bs : List ℕ) (at n : ℕ) → b ∷ bs ≡ drop at script → size (front b bs) ≡ n → t.start ≡ at → t.end ≡ at + n → IsLongest script t
token_longest script t b bs at n here sized starts ends m begins =
    let within = front_longest b bs m (subst (λ bytes. BeginWithToken bytes m) (ap (λ k. drop k script) starts ∙ sym here) begins) in
    omega (arith, within, sized, starts, ends)

longest_at : (script : List ℕ) {bytes : List ℕ} {at : ℕ} {ts : List Lexeme} → bytes ≡ drop at script → Lexes bytes at ts → AreLongest script ts
longest_at script here over = tt
longest_at script {at = at} here (spaced {n = n} e l) = longest_at script (ap (drop n) here ∙ drop-drop n at script) l
longest_at script {at = at} here (taken {b = b} {bs = bs} {n = n} {t = t} e starts ends l) =
    (token_longest script t b bs at n here (ap size e) starts ends, longest_at script (ap (drop n) here ∙ drop-drop n at script) l)

pub longest : (script : List ℕ) (ts : List Lexeme) → Lexes script 0 ts → AreLongest script ts
longest script ts l = longest_at script refl l
