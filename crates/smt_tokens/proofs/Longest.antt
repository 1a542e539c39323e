-- No longer token begins at a token's place.
use Rattle.std.proofs.Common.{◌≡◌, ℕ, suc, ◌+◌, ◌<◌, ◌≤◌, Bool, true, false, List, [], ◌∷◌, ◌++◌, length, drop, sym, refl, ap, ◌∙◌, subst, inl, inr, arith, drop-drop, length-append, append_assoc, codes}
use Rattle.std.specs.Prelude.{cond, not, ◌&&◌, ◌||◌, ◌==◌, ◌⊎◌, Option, Some, None, nat_lt, if◌then◌else◌}
use Rattle.std.specs.List.{prefix_len, list_all, list_any}
use Rattle.language_meaning.specs.Names.{is_digit, is_letter}
use Rattle.redlog_tokens.proofs.Longest.{both, one_of}
use Rattle.smt_language.specs.declared.lexer.Front.{Front}
use Rattle.smt_language.specs.declared.lexer.Front.TheVariants as found
use Rattle.smt_language.specs.declared.token.SmtLexeme.{SmtLexeme}
use Rattle.smt_language.specs.Lexing.{is_symbol_part, is_in_bars, symbol_length, fraction_length, closing_quote, closed_at, quoted, barred, keyword, simple, numbered_by, numbered, front, Lexes, over, spaced, taken}
use Rattle.smt_tokens.specs.Fronts.{size}
use Rattle.smt_tokens.specs.Longest.{IsQuoted, nothing, other, doubled, is_barred, IsNumeral, IsSimple, IsToken, opening, closing, numeral, decimal, string, simple as simple_text, barred as barred_text, keyword as keyword_text, IsLongest, AreLongest}
use Rattle.std.proofs.lemmas.Bool.{ltb-false, eqb-true}
use Rattle.std.proofs.lemmas.List.Prefix.{front_rest}
use Rattle.smt_tokens.proofs.Fronts.{either, front_size}

-- what stands at the front of a text
abbrev front_of : List ℕ → Front
front_of [] = found.Space 0
front_of (b ∷ bs) = front b bs

-- all of a text that pass are at the front
at_front : (p : ℕ → Bool) (xs ys : List ℕ) → list_all p xs ≡ true → length xs ≤ prefix_len p (xs ++ ys)
at_front p [] ys all = omega arith
at_front p (x ∷ xs) ys all =
    let parts = both (p x) (list_all p xs) all in
    let rest = at_front p xs ys parts.1 in
    subst (λ b. suc (length xs) ≤ cond b (1 + prefix_len p (xs ++ ys)) 0) (sym parts.0) (omega (arith, rest))

-- and no more, where the next one does not pass
just_front : (p : ℕ → Bool) (xs : List ℕ) (y : ℕ) (ys : List ℕ) → list_all p xs ≡ true → p y ≡ false → prefix_len p (xs ++ (y ∷ ys)) ≡ length xs
just_front p [] y ys all stop = subst (λ b. cond b (1 + prefix_len p ys) 0 ≡ 0) (sym stop) refl
just_front p (x ∷ xs) y ys all stop =
    let parts = both (p x) (list_all p xs) all in
    let rest = just_front p xs y ys parts.1 stop in
    subst (λ b. cond b (1 + prefix_len p (xs ++ (y ∷ ys))) 0 ≡ suc (length xs)) (sym parts.0) (omega (arith, rest))

-- a numeral takes all digits at the front
by_whole : (bytes : List ℕ) (whole fraction : ℕ) → whole ≤ size (numbered_by bytes whole fraction)
by_whole bytes whole fraction = either (λ f. whole ≤ size f) (nat_lt 0 fraction) _ _ (λ e. omega arith) (λ e. omega arith)

by_both : (bytes : List ℕ) (whole fraction : ℕ) → 0 < fraction → whole + 1 + fraction ≤ size (numbered_by bytes whole fraction)
by_both bytes whole fraction some = either (λ f. whole + 1 + fraction ≤ size f) (nat_lt 0 fraction) _ _ (λ e. omega arith) (λ e. absurd (omega (arith, ltb-false 0 fraction e)))

numbered_whole : (bytes : List ℕ) → prefix_len is_digit bytes ≤ size (numbered bytes)
unfolding numbered
numbered_whole bytes = by_whole bytes (prefix_len is_digit bytes) (fraction_length (drop (prefix_len is_digit bytes) bytes))

numbered_both : (bytes : List ℕ) (whole : ℕ) → prefix_len is_digit bytes ≡ whole → 0 < fraction_length (drop whole bytes) → whole + 1 + fraction_length (drop whole bytes) ≤ size (numbered bytes)
unfolding numbered
numbered_both bytes whole is some =
    subst (λ n. whole + 1 + fraction_length (drop whole bytes) ≤ size (numbered_by bytes n (fraction_length (drop n bytes)))) (sym is) (by_both bytes whole (fraction_length (drop whole bytes)) some)

front_of_digit : (b : ℕ) (bs : List ℕ) → is_digit b ≡ true → front b bs ≡ numbered (b ∷ bs)
unfolding front
front_of_digit b bs h = grind arith

module _ (rest : List ℕ) where
  numeral_longest : (digits : List ℕ) → IsNumeral digits → length digits ≤ size (front_of (digits ++ rest))
  numeral_longest [] n = omega arith
  numeral_longest (d ∷ ds) n =
      let all = both (is_digit d) (list_all is_digit ds) n.all in
      subst (λ f. length (d ∷ ds) ≤ size f) (sym (front_of_digit d (ds ++ rest) all.0)) (omega (arith, numbered_whole (d ∷ (ds ++ rest)), at_front is_digit (d ∷ ds) rest n.all))

  decimal_longest : (digits fraction : List ℕ) → IsNumeral digits → 0 < length fraction → list_all is_digit fraction ≡ true
      → length digits + 1 + length fraction ≤ size (front_of (digits ++ (46 ∷ (fraction ++ rest))))
  decimal_longest [] fraction n some all = absurd (omega (arith, n.some))
  decimal_longest (d ∷ ds) fraction n some all =
      let whole = just_front is_digit (d ∷ ds) 46 (fraction ++ rest) n.all refl in
      let behind = front_rest ((d ∷ ds) ++ (46 ∷ (fraction ++ rest))) (d ∷ ds) (46 ∷ (fraction ++ rest)) refl in
      let many = at_front is_digit fraction rest all in
      let same : fraction_length (drop (length (d ∷ ds)) ((d ∷ ds) ++ (46 ∷ (fraction ++ rest)))) ≡ prefix_len is_digit (fraction ++ rest) = ap fraction_length behind in
      let first = both (is_digit d) (list_all is_digit ds) n.all in
      subst (λ f. length (d ∷ ds) + 1 + length fraction ≤ size f) (sym (front_of_digit d (ds ++ (46 ∷ (fraction ++ rest))) first.0))
      (omega (arith, numbered_both ((d ∷ ds) ++ (46 ∷ (fraction ++ rest))) (length (d ∷ ds)) whole (omega (arith, same, many, some)), same, many))

-- the place, if there is one, is this one or later
abbrev Later : ℕ → Option ℕ → Type 0
Later m None = Unit {0}
Later m (Some n) = m ≤ n

later_if : (p : Bool) (m : ℕ) (o q : Option ℕ) → Later m o → Later m q → Later m (if p then o else q)
later_if true m o q a b = a
later_if false m o q a b = b

weaker : (m n : ℕ) (o : Option ℕ) → n ≤ m → Later m o → Later n o
weaker m n None le h = tt
weaker m n (Some k) le h = omega arith

closes_later : (at : ℕ) (bs : List ℕ) → Later at (closing_quote at bs)
closes_later at [] = tt
closes_later at (b ∷ []) = later_if (b == 34) at (Some at) None (omega arith) tt
closes_later at (b ∷ c ∷ cs) =
    later_if (b == 34) at _ _ (later_if (c == 34) at _ _ (weaker (at + 2) at (closing_quote (at + 2) cs) (omega arith) (closes_later (at + 2) cs)) (omega arith))
    (weaker (at + 1) at (closing_quote (at + 1) (c ∷ cs)) (omega arith) (closes_later (at + 1) (c ∷ cs)))

quote_here : (at : ℕ) (rest : List ℕ) → Later at (closing_quote at (34 ∷ rest))
quote_here at rest = closes_later at (34 ∷ rest)

past_other : (at : ℕ) (b c : ℕ) (cs : List ℕ) → (b == 34) ≡ false → closing_quote at (b ∷ c ∷ cs) ≡ closing_quote (at + 1) (c ∷ cs)
past_other at b c cs e = rw e

-- a quote that closes a string stands behind what each quote is doubled in
closes_behind : (at : ℕ) {text : List ℕ} (rest : List ℕ) → IsQuoted text → Later (at + length text) (closing_quote at (text ++ (34 ∷ rest)))
closes_behind at rest nothing = weaker at (at + 0) (closing_quote at (34 ∷ rest)) (omega arith) (quote_here at rest)
closes_behind at rest (other {b = b} {bs = []} e q) = subst (Later (at + 1)) (sym (past_other at b 34 rest e)) (quote_here (at + 1) rest)
closes_behind at rest (other {b = b} {bs = c ∷ cs} e q) =
    subst (Later (at + length (b ∷ c ∷ cs))) (sym (past_other at b c (cs ++ (34 ∷ rest)) e))
    (weaker (at + 1 + length (c ∷ cs)) (at + length (b ∷ c ∷ cs)) _ (omega arith) (closes_behind (at + 1) rest q))
closes_behind at rest (doubled {bs = bs} q) = weaker (at + 2 + length bs) (at + length (34 ∷ 34 ∷ bs)) _ (omega arith) (closes_behind (at + 2) rest q)

closed_later : (m total : ℕ) (o : Option ℕ) → Later m o → m < total → 2 + m ≤ size (closed_at o total)
closed_later m total None h more = omega arith
closed_later m total (Some n) h more = omega arith

quoted_longest : (text rest : List ℕ) → IsQuoted text → 2 + length text ≤ size (quoted (text ++ (34 ∷ rest)))
unfolding quoted
quoted_longest text rest q =
    closed_later (length text) (length (text ++ (34 ∷ rest))) (closing_quote 0 (text ++ (34 ∷ rest)))
    (weaker (0 + length text) (length text) (closing_quote 0 (text ++ (34 ∷ rest))) (omega arith) (closes_behind 0 rest q)) (omega (arith, length-append text (34 ∷ rest)))

front_of_quote : (bs : List ℕ) → front 34 bs ≡ quoted bs
unfolding front
front_of_quote bs = refl

-- a symbol in bars
no_bar : (text : List ℕ) → list_all is_barred text ≡ true → list_all is_in_bars text ≡ true
no_bar [] h = refl
no_bar (b ∷ bs) h =
    let parts = both (is_barred b) (list_all is_barred bs) h in
    let one : is_in_bars b ≡ true = grind arith in
    subst (λ c. (c && list_all is_in_bars bs) ≡ true) (sym one) (no_bar bs parts.1)

barred_longest : (text rest : List ℕ) → list_all is_barred text ≡ true → 2 + length text ≤ size (barred (text ++ (124 ∷ rest)))
unfolding barred
barred_longest text rest all =
    let same = just_front is_in_bars text 124 rest (no_bar text all) refl in
    either (λ f. 2 + length text ≤ size f) (nat_lt (prefix_len is_in_bars (text ++ (124 ∷ rest))) (length (text ++ (124 ∷ rest)))) _ _
    (λ e. omega (arith, same)) (λ e. omega (arith, length-append text (124 ∷ rest)))

front_of_bar : (bs : List ℕ) → front 124 bs ≡ barred bs
unfolding front
front_of_bar bs = refl

-- what a blank, a comment, a parenthesis, a string, a symbol in bars or a keyword begins with
abbrev enders : List ℕ
enders = 9 ∷ 10 ∷ 13 ∷ 32 ∷ 59 ∷ 40 ∷ 41 ∷ 34 ∷ 124 ∷ 58 ∷ []

abbrev is_plain : ℕ → Bool
is_plain b = not (is_letter b || is_digit b)

abbrev begins_simple : ℕ → Bool
begins_simple b = not (list_any (λ c. b == c) enders)

of_one : (q : ℕ → Bool) (b c : ℕ) (p : Bool) → ((b == c) ≡ true) ⊎ (p ≡ true) → q c ≡ true → (p ≡ true → q b ≡ true) → q b ≡ true
of_one q b c p (inl e) here later = ap q (eqb-true b c e) ∙ here
of_one q b c p (inr e) here later = later e

of_codes : (q : ℕ → Bool) (b : ℕ) (cs : List ℕ) → list_all q cs ≡ true → list_any (λ c. b == c) cs ≡ true → q b ≡ true
of_codes q b [] all is = cc
of_codes q b (c ∷ cs) all is =
    let parts = both (q c) (list_all q cs) all in
    of_one q b c (list_any (λ c. b == c) cs) (one_of (b == c) (list_any (λ c. b == c) cs) is) parts.0 (of_codes q b cs parts.1)

not_both : (p : Bool) → p ≡ true → not p ≡ true → ⊥
not_both true e f = cc
not_both false e f = cc

letter_begins : (b : ℕ) (p : Bool) → list_any (λ c. b == c) enders ≡ p → (is_letter b || is_digit b) ≡ true → not p ≡ true
letter_begins b true e h = absurd (not_both (is_letter b || is_digit b) h (of_codes is_plain b enders refl e))
letter_begins b false e h = refl

part_if : (b : ℕ) → ((is_letter b || is_digit b) ≡ true) ⊎ (list_any (λ c. b == c) (codes "~!@$%^&*_-+=<>.?/") ≡ true) → begins_simple b ≡ true
part_if b (inl e) = letter_begins b (list_any (λ c. b == c) enders) refl e
part_if b (inr e) = of_codes begins_simple b (codes "~!@$%^&*_-+=<>.?/") refl e

part_begins : (b : ℕ) → is_symbol_part b ≡ true → begins_simple b ≡ true
part_begins b h = part_if b (one_of (is_letter b || is_digit b) (list_any (λ c. b == c) (codes "~!@$%^&*_-+=<>.?/")) h)

front_of_simple : (b : ℕ) (bs : List ℕ) → begins_simple b ≡ true → is_digit b ≡ false → front b bs ≡ simple (b ∷ bs)
unfolding front
front_of_simple b bs h d = grind arith

symbol_at_least : (b : ℕ) (bs : List ℕ) (n : ℕ) → is_digit b ≡ false → n ≤ prefix_len is_symbol_part (b ∷ bs) → n ≤ symbol_length (b ∷ bs)
symbol_at_least b bs n d h = subst (λ c. n ≤ (if c then 0 else prefix_len is_symbol_part (b ∷ bs))) (sym d) h

simple_least : (bytes : List ℕ) (n : ℕ) → 0 < n → n ≤ symbol_length bytes → n ≤ size (simple bytes)
unfolding simple
simple_least bytes n some h = either (λ f. n ≤ size f) (nat_lt 0 (symbol_length bytes)) _ _ (λ e. h) (λ e. absurd (omega (arith, ltb-false 0 (symbol_length bytes) e)))

keyword_least : (bytes : List ℕ) (n : ℕ) → 0 < n → n ≤ symbol_length bytes → 1 + n ≤ size (keyword bytes)
unfolding keyword
keyword_least bytes n some h = either (λ f. 1 + n ≤ size f) (nat_lt 0 (symbol_length bytes)) _ _ (λ e. omega arith) (λ e. absurd (omega (arith, ltb-false 0 (symbol_length bytes) e)))

symbol_text : (text rest : List ℕ) → IsSimple text → (0 < length text) × (length text ≤ symbol_length (text ++ rest))
symbol_text [] rest s = let both : [] ≡ s.first ∷ s.others = s.bytes in cc
symbol_text (b ∷ bs) rest s =
    let same : b ≡ s.first = heads s.bytes in
    (omega arith, symbol_at_least b (bs ++ rest) (length (b ∷ bs)) (ap is_digit same ∙ s.no_digit) (at_front is_symbol_part (b ∷ bs) rest s.all))
  where
    heads : {x y : ℕ} {xs ys : List ℕ} → (x ∷ xs) ≡ (y ∷ ys) → x ≡ y
    heads e = cc

front_of_symbol : (text rest : List ℕ) → IsSimple text → front_of (text ++ rest) ≡ simple (text ++ rest)
front_of_symbol [] rest s = let both : [] ≡ s.first ∷ s.others = s.bytes in cc
front_of_symbol (b ∷ bs) rest s =
    let parts = both (is_symbol_part b) (list_all is_symbol_part bs) s.all in
    let same : b ≡ s.first = heads s.bytes in
    front_of_simple b (bs ++ rest) (part_begins b parts.0) (ap is_digit same ∙ s.no_digit)
  where
    heads : {x y : ℕ} {xs ys : List ℕ} → (x ∷ xs) ≡ (y ∷ ys) → x ≡ y
    heads e = cc

front_of_colon : (bs : List ℕ) → front 58 bs ≡ keyword bs
unfolding front
front_of_colon bs = refl

parenthesis : (b : ℕ) (bs : List ℕ) → 1 ≤ size (front b bs)
parenthesis b bs = omega (arith, front_size b bs)

-- no text of a token at the front is longer than what stands there
front_longest : (text rest : List ℕ) → IsToken text → length text ≤ size (front_of (text ++ rest))
front_longest text rest opening = parenthesis 40 rest
front_longest text rest closing = parenthesis 41 rest
front_longest text rest (numeral n) = numeral_longest rest text n
front_longest text rest (decimal ds fs n some all) =
    subst (λ bytes. length (ds ++ (46 ∷ fs)) ≤ size (front_of bytes)) (sym (append_assoc ds (46 ∷ fs) rest))
    (omega (arith, length-append ds (46 ∷ fs), decimal_longest rest ds fs n some all))
front_longest text rest (string inner q) =
    subst (λ bytes. length (34 ∷ (inner ++ (34 ∷ []))) ≤ size (front 34 bytes)) (sym (append_assoc inner (34 ∷ []) rest))
    (subst (λ f. length (34 ∷ (inner ++ (34 ∷ []))) ≤ size f) (sym (front_of_quote (inner ++ (34 ∷ rest)))) (omega (arith, length-append inner (34 ∷ []), quoted_longest inner rest q)))
front_longest text rest (simple_text s) =
    let many = symbol_text text rest s in
    subst (λ f. length text ≤ size f) (sym (front_of_symbol text rest s)) (simple_least (text ++ rest) (length text) many.0 many.1)
front_longest text rest (barred_text inner all) =
    subst (λ bytes. length (124 ∷ (inner ++ (124 ∷ []))) ≤ size (front 124 bytes)) (sym (append_assoc inner (124 ∷ []) rest))
    (subst (λ f. length (124 ∷ (inner ++ (124 ∷ []))) ≤ size f) (sym (front_of_bar (inner ++ (124 ∷ rest)))) (omega (arith, length-append inner (124 ∷ []), barred_longest inner rest all)))
front_longest text rest (keyword_text {text = inner} s) =
    let many = symbol_text inner rest s in
    subst (λ f. length (58 ∷ inner) ≤ size f) (sym (front_of_colon (inner ++ rest))) (omega (arith, keyword_least (inner ++ rest) (length inner) many.0 many.1))

token_longest : (script : List ℕ) (t : SmtLexeme) (b : ℕ) (bs : List ℕ) (at n : ℕ) → b ∷ bs ≡ drop at script → size (front b bs) ≡ n → t.start ≡ at → t.end ≡ at + n → IsLongest script t
token_longest script t b bs at n here sized starts ends text rest is begins =
    let same : text ++ rest ≡ b ∷ bs = sym begins ∙ ap (λ k. drop k script) starts ∙ sym here in
    let within = subst (λ bytes. length text ≤ size (front_of bytes)) same (front_longest text rest is) in
    omega (arith, within, sized, starts, ends)

longest_at : (script : List ℕ) {bytes : List ℕ} {at : ℕ} {ts : List SmtLexeme} → bytes ≡ drop at script → Lexes bytes at ts → AreLongest script ts
longest_at script here over = tt
longest_at script {at = at} here (spaced {n = n} e l) = longest_at script (ap (drop n) here ∙ drop-drop n at script) l
longest_at script {at = at} here (taken {b = b} {bs = bs} {n = n} {t = t} e starts ends l) =
    (token_longest script t b bs at n here (ap size e) starts ends, longest_at script (ap (drop n) here ∙ drop-drop n at script) l)

pub longest : (script : List ℕ) (ts : List SmtLexeme) → Lexes script 0 ts → AreLongest script ts
longest script ts l = longest_at script refl l
