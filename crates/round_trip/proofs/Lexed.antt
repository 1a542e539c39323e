-- Texts with the terminals that they spell, part by part.
use Rattle.std.proofs.Common.{◌≡◌, ℕ, suc, ◌+◌, ◌*◌, ◌-◌, ◌^◌, ◌<◌, ◌≤◌, Bool, true, false, cond, List, [], ◌∷◌, ◌++◌, map, length, take, drop, codes, sym, refl, ap, ◌∙◌, subst, arith, append_assoc, Some, None, decimal}
use Rattle.std.specs.Prelude.{pos, nat_lt, ◌==◌, ◌&&◌, ◌||◌, if◌then◌else◌}
use Rattle.std.specs.List.{prefix_len, list_all}
use Rattle.std.specs.Str.Parse.{AllDigits, digits_value_after}
use Rattle.std.proofs.lemmas.Bool.{le-leb, and_from, lt-ltb}
use Rattle.std.proofs.lemmas.Fmt.{decimal_is_IsNumeral_wide}
use Rattle.std.proofs.lemmas.Str.Parse.{digit_from_value}
use Rattle.std.proofs.lemmas.Str.{digit_value_digit}
use Rattle.std.specs.Char.{digit_value}
use Rattle.language_meaning.specs.declared.tree.Literal.TheVariants.{Fits, Past}
use Rattle.language_meaning.specs.Names.{IsVariable, is_digit, is_letter, is_name_part, is_word, begins_with_letter}
use Rattle.language_meaning.specs.declared.lexer.Front.{Front}
use Rattle.language_meaning.specs.declared.lexer.Front.TheVariants as found
use Rattle.language_meaning.specs.declared.lexer.Lexeme.{Lexeme}
use Rattle.language_meaning.specs.declared.token.TokenKind.{TokenKind}
use Rattle.language_meaning.specs.declared.token.TokenKind.TheVariants as token
use Rattle.language_meaning.specs.declared.terminal.Terminal.{Terminal}
use Rattle.language_meaning.specs.declared.terminal.Terminal.TheVariants as terminal
use Rattle.language_meaning.specs.declared.terminal.Mark.TheVariants as mark
use Rattle.language_meaning.specs.declared.terminal.Word.{Word}
use Rattle.language_meaning.specs.Lexing.{front, signed, worded, literal_of, value_after, is_blank, Lexes, over, spaced, taken}
use Rattle.language_meaning.specs.Terminals.{terminal_of, word_of, sign_of}
use Rattle.round_trip.specs.Printed.{number}

-- the bytes spell these terminals, wherever they begin, and no token is bad
pub record Reads (bytes : List ℕ) (ts : List Terminal) : Type 0 where
  pub kinds : List TokenKind
  pub terminals : map terminal_of kinds ≡ ts
  pub lexes : (at : ℕ) → (ls : List Lexeme) × Lexes bytes at ls × (map (λ (t : Lexeme). t.kind) ls ≡ map Some kinds)

pub reads_nothing : Reads [] []
reads_nothing = record { kinds = []; terminals = refl; lexes = λ at. ([], over, refl) }

pub reads_space : (b : ℕ) (bs rest : List ℕ) (ts : List Terminal) (n : ℕ) → front b bs ≡ found.Space n → drop n (b ∷ bs) ≡ rest → Reads rest ts → Reads (b ∷ bs) ts
reads_space b bs rest ts n e d r = record {
  kinds = r.kinds;
  terminals = r.terminals;
  lexes = λ at. let l = r.lexes (at + n) in (l.0, spaced e (subst (λ w. Lexes w (at + n) l.0) (sym d) l.1), l.2);
}

pub reads_token : (b : ℕ) (bs rest : List ℕ) (kind : TokenKind) (ts : List Terminal) (n : ℕ) → front b bs ≡ found.Token (Some kind) n → drop n (b ∷ bs) ≡ rest → Reads rest ts → Reads (b ∷ bs) (terminal_of kind ∷ ts)
reads_token b bs rest kind ts n e d r = record {
  kinds = kind ∷ r.kinds;
  terminals = ap (λ us. terminal_of kind ∷ us) r.terminals;
  lexes = λ at.
      let l = r.lexes (at + n) in
      let here : Lexeme = record { kind = Some kind; start = at; end = at + n } in
      (here ∷ l.0, taken e refl refl (subst (λ w. Lexes w (at + n) l.0) (sym d) l.1), ap (λ ks. Some kind ∷ ks) l.2);
}

-- ---- runs

-- no part of a name begins the bytes
abbrev pub IsApart : List ℕ → Type 0
IsApart rest = prefix_len is_name_part rest ≡ 0

pub prefix_whole : (p : ℕ → Bool) (xs ys : List ℕ) → list_all p xs ≡ true → prefix_len p ys ≡ 0 → prefix_len p (xs ++ ys) ≡ length xs
prefix_whole p [] ys all stops = stops
prefix_whole p (x ∷ xs) ys all stops = go (p x) all (λ h. prefix_whole p xs ys h stops)
  where
    go : (b : Bool) → (b && list_all p xs) ≡ true → (list_all p xs ≡ true → prefix_len p (xs ++ ys) ≡ length xs) → cond b (1 + prefix_len p (xs ++ ys)) 0 ≡ suc (length xs)
    go true h rest = let k = rest h in omega arith
    go false h rest = absurd (cc)

pub take_front : (b : ℕ) (bs rest : List ℕ) → take (1 + length bs) (b ∷ (bs ++ rest)) ≡ b ∷ bs
take_front b bs rest =
    let next : 1 + length bs ≡ suc (length bs) = omega arith in
    ap (λ n. take n (b ∷ (bs ++ rest))) next ∙ ap (λ xs. b ∷ xs) (all bs)
  where
    all : (xs : List ℕ) → take (length xs) (xs ++ rest) ≡ xs
    all [] = refl
    all (x ∷ xs) = ap (λ ys. x ∷ ys) (all xs)

pub drop_front : (b : ℕ) (bs rest : List ℕ) → drop (1 + length bs) (b ∷ (bs ++ rest)) ≡ rest
drop_front b bs rest =
    let next : 1 + length bs ≡ suc (length bs) = omega arith in
    ap (λ n. drop n (b ∷ (bs ++ rest))) next ∙ all bs
  where
    all : (xs : List ℕ) → drop (length xs) (xs ++ rest) ≡ rest
    all [] = refl
    all (x ∷ xs) = all xs

-- ---- which byte is what

letter_high : (b : ℕ) → is_letter b ≡ true → 65 ≤ b
letter_high b h = grind arith

digit_within : (b : ℕ) → is_digit b ≡ true → (48 ≤ b) × (b ≤ 57)
digit_within b h = (grind arith, grind arith)

digit_part : (b : ℕ) → is_digit b ≡ true → is_name_part b ≡ true
digit_part b h = grind arith

not_blank : (b : ℕ) → 48 ≤ b → is_blank b ≡ false
not_blank b h = grind arith

not_comment : (b : ℕ) → 48 ≤ b → (b == 37) ≡ false
not_comment b h = grind arith

not_digit : (b : ℕ) → 65 ≤ b → is_digit b ≡ false
not_digit b h = grind arith

apart_digits : (rest : List ℕ) → IsApart rest → prefix_len is_digit rest ≡ 0
apart_digits [] h = refl
apart_digits (b ∷ bs) h = go (is_digit b) refl
  where
    go : (d : Bool) → is_digit b ≡ d → cond d (1 + prefix_len is_digit bs) 0 ≡ 0
    go true e = let k : cond true (1 + prefix_len is_name_part bs) 0 ≡ 0 = sym (ap (λ c. cond c (1 + prefix_len is_name_part bs) 0) (digit_part b e)) ∙ h in absurd (omega arith)
    go false e = refl

-- ---- tokens that go on as far as they can

third : (p q r : Bool) (f g h i : Front) → p ≡ false → q ≡ false → r ≡ true → (if p then f else (if q then g else (if r then h else i))) ≡ h
third p q r f g h i a b c = ap (λ t. if t then f else (if q then g else (if r then h else i))) a ∙ ap (λ t. if t then g else (if r then h else i)) b ∙ ap (λ t. if t then h else i) c

fourth : (p q r s : Bool) (f g h i j : Front) → p ≡ false → q ≡ false → r ≡ false → s ≡ true → (if p then f else (if q then g else (if r then h else (if s then i else j)))) ≡ i
fourth p q r s f g h i j a b c d = ap (λ t. if t then f else (if q then g else (if r then h else (if s then i else j)))) a ∙ third q r s g h i j b c d

number_token : (d : ℕ) (ds rest : List ℕ) → is_digit d ≡ true → list_all is_digit ds ≡ true → IsApart rest
    → front d (ds ++ rest) ≡ found.Token (Some (token.Number (literal_of (d ∷ ds)))) (1 + length ds)
unfolding front
number_token d ds rest first all apart =
    let high = digit_within d first in
    third (is_blank d) (d == 37) (is_digit d) _ _ _ _ (not_blank d high.0) (not_comment d high.0) first
    ∙ ap (λ n. found.Token (Some (token.Number (literal_of (take (1 + n) (d ∷ (ds ++ rest)))))) (1 + n)) (prefix_whole is_digit ds rest all (apart_digits rest apart))
    ∙ ap (λ w. found.Token (Some (token.Number (literal_of w))) (1 + length ds)) (take_front d ds rest)

worded_token : (b : ℕ) (bs rest : List ℕ) (kind : TokenKind) → is_letter b ≡ true → list_all is_name_part bs ≡ true → IsApart rest → worded (b ∷ bs) ≡ Some kind
    → front b (bs ++ rest) ≡ found.Token (Some kind) (1 + length bs)
unfolding front
worded_token b bs rest kind first all apart k =
    let high = letter_high b first in
    fourth (is_blank b) (b == 37) (is_digit b) (is_letter b) _ _ _ _ _ (not_blank b (omega (arith, high))) (not_comment b (omega (arith, high))) (not_digit b high) first
    ∙ ap (λ n. found.Token (worded (take (1 + n) (b ∷ (bs ++ rest)))) (1 + n)) (prefix_whole is_name_part bs rest all apart)
    ∙ ap (λ w. found.Token (worded w) (1 + length bs)) (take_front b bs rest)
    ∙ ap (λ o. found.Token o (1 + length bs)) k

-- ---- numbers

digits_are : (ds : List ℕ) → AllDigits 10 ds → list_all is_digit ds ≡ true
digits_are [] h = refl
digits_are (d ∷ ds) h = let r = digit_from_value d h.0 in and_from _ _ (and_from _ _ (le-leb 48 d (omega arith)) (le-leb d 57 (omega arith))) (digits_are ds h.1)

digits_say : (n : ℕ) (ds : List ℕ) → AllDigits 10 ds → value_after n ds ≡ digits_value_after 10 n ds
digits_say n [] h = refl
digits_say n (d ∷ ds) h =
    let r = digit_from_value d h.0 in
    let same : digit_value d + 48 ≡ d = digit_value_digit d r in
    let next : n * 10 + (d - 48) ≡ n * 10 + digit_value d = omega arith in
    ap (λ m. value_after m ds) next ∙ digits_say (n * 10 + digit_value d) ds h.1

literal_is : (ds : List ℕ) (n : ℕ) → value_after 0 ds ≡ n → n < 2 ^ 127 → literal_of ds ≡ Fits (pos n)
unfolding literal_of
literal_is ds n e h =
    ap (λ m. if nat_lt m (2 ^ 127) then Fits (pos m) else Past) e ∙ ap (λ c. if c then Fits (pos n) else Past) (lt-ltb n (2 ^ 127) h)

pub reads_number : (n : ℕ) (rest : List ℕ) (ts : List Terminal) → n < 2 ^ 127 → IsApart rest → Reads rest ts → Reads (decimal n ++ rest) (number n ∷ ts)
reads_number n rest ts h apart r =
    let k = decimal_is_IsNumeral_wide n (omega arith) in
    go (decimal n) k.0.0 k.0.1 (digits_say 0 (decimal n) k.0.1 ∙ k.1)
  where
    go : (ds : List ℕ) → 0 < length ds → AllDigits 10 ds → value_after 0 ds ≡ n → Reads (ds ++ rest) (number n ∷ ts)
    go [] some all says = absurd (omega arith)
    go (d ∷ ds) some all says =
        let digits = digits_are (d ∷ ds) all in
        let range = digit_from_value d all.0 in
        let first : is_digit d ≡ true = and_from _ _ (le-leb 48 d (omega arith)) (le-leb d 57 (omega arith)) in
        subst (λ l. Reads (d ∷ (ds ++ rest)) (terminal.Number l ∷ ts)) (literal_is (d ∷ ds) n says h)
        (reads_token d (ds ++ rest) rest (token.Number (literal_of (d ∷ ds))) ts (1 + length ds) (number_token d ds rest first (digits_are ds all.1) apart) (drop_front d ds rest) r)

-- ---- names and words

name_kind : (x : List ℕ) → length x ≤ 64 → is_word x ≡ false → worded x ≡ Some (token.Name x)
unfolding worded
name_kind x few free = go (nat_lt 64 (length x)) refl
  where
    go : (b : Bool) → nat_lt 64 (length x) ≡ b → (if b then None else (if is_word x then Some (token.Word x) else Some (token.Name x))) ≡ Some (token.Name x)
    go true e = absurd (grind arith)
    go false e = ap (λ c. if c then Some (token.Word x) else Some (token.Name x)) free

pub reads_name : (x rest : List ℕ) (ts : List Terminal) → IsVariable x → IsApart rest → Reads rest ts → Reads (x ++ rest) (terminal.Name x ∷ ts)
reads_name [] rest ts v apart r = let e = v.begins in absurd (cc)
reads_name (b ∷ bs) rest ts v apart r =
    reads_token b (bs ++ rest) rest (token.Name (b ∷ bs)) ts (1 + length bs) (worded_token b bs rest (token.Name (b ∷ bs)) v.begins (parts (is_name_part b) v.parts) apart (name_kind (b ∷ bs) v.few v.free)) (drop_front b bs rest) r
  where
    parts : (c : Bool) → (c && list_all is_name_part bs) ≡ true → list_all is_name_part bs ≡ true
    parts true e = e
    parts false e = absurd (cc)

pub reads_word : (b : ℕ) (bs rest : List ℕ) (ts : List Terminal) → is_letter b ≡ true → list_all is_name_part bs ≡ true → worded (b ∷ bs) ≡ Some (token.Word (b ∷ bs)) → IsApart rest → Reads rest ts
    → Reads (b ∷ (bs ++ rest)) (terminal.Word (word_of (b ∷ bs)) ∷ ts)
reads_word b bs rest ts first all word apart r =
    reads_token b (bs ++ rest) rest (token.Word (b ∷ bs)) ts (1 + length bs) (worded_token b bs rest (token.Word (b ∷ bs)) first all apart word) (drop_front b bs rest) r

-- ---- texts that add terminals

-- before bytes with P the text adds what k adds to the terminals
pub record Adds (P : List ℕ → Type 0) (text : List ℕ) (k : List Terminal → List Terminal) : Type 0 where
  pub reads : (rest : List ℕ) (ts : List Terminal) → P rest → Reads rest ts → Reads (text ++ rest) (k ts)

-- no condition on what follows
abbrev pub Anything : List ℕ → Type 0
Anything rest = Unit {0}

abbrev pub BeginsName : List ℕ → Type 0
BeginsName rest = begins_with_letter rest ≡ true

pub nothing_adds : (P : List ℕ → Type 0) → Adds P [] (λ ts. ts)
nothing_adds P = record { reads = λ rest ts p r. r }

-- one text and then another
pub joined : (P Q : List ℕ → Type 0) (a b : List ℕ) (k l : List Terminal → List Terminal) → ((rest : List ℕ) → Q rest → P (b ++ rest)) → Adds P a k → Adds Q b l → Adds Q (a ++ b) (λ ts. k (l ts))
joined P Q a b k l side x y = record {
  reads = λ rest ts q r. subst (λ w. Reads w (k (l ts))) (sym (append_assoc a b rest)) (x.reads (b ++ rest) (l ts) (side rest q) (y.reads rest ts q r));
}

-- a text that needs nothing of what follows, and then another
pub joined_freely : (Q : List ℕ → Type 0) (a b : List ℕ) (k l : List Terminal → List Terminal) → Adds Anything a k → Adds Q b l → Adds Q (a ++ b) (λ ts. k (l ts))
joined_freely Q a b k l = joined Anything Q a b k l (λ rest q. tt)

pub needs_less : (P : List ℕ → Type 0) (a : List ℕ) (k : List Terminal → List Terminal) → Adds Anything a k → Adds P a k
needs_less P a k x = record { reads = λ rest ts p r. x.reads rest ts tt r }

-- a sign of one byte that begins no longer one
pub sign_adds : (b : ℕ) (m : Terminal) → ((rest : List ℕ) → front b rest ≡ found.Token (Some (token.Sign (b ∷ []))) 1) → sign_of (b ∷ []) ≡ m → Adds Anything (b ∷ []) (λ ts. m ∷ ts)
sign_adds b m e is = record { reads = λ rest ts p r. subst (λ t. Reads (b ∷ rest) (t ∷ ts)) is (reads_token b rest rest (token.Sign (b ∷ [])) ts 1 (e rest) refl r) }

pub open_adds : Adds Anything (codes "(") (λ ts. terminal.Mark mark.Open ∷ ts)
unfolding front signed sign_of
open_adds = sign_adds 40 (terminal.Mark mark.Open) (λ rest. refl) refl

pub close_adds : Adds Anything (codes ")") (λ ts. terminal.Mark mark.Close ∷ ts)
unfolding front signed sign_of
close_adds = sign_adds 41 (terminal.Mark mark.Close) (λ rest. refl) refl

pub comma_adds : Adds Anything (codes ",") (λ ts. terminal.Mark mark.Comma ∷ ts)
unfolding front signed sign_of
comma_adds = sign_adds 44 (terminal.Mark mark.Comma) (λ rest. refl) refl

pub minus_adds : Adds Anything (codes "-") (λ ts. terminal.Mark mark.Minus ∷ ts)
unfolding front signed sign_of
minus_adds = sign_adds 45 (terminal.Mark mark.Minus) (λ rest. refl) refl

pub plus_adds : Adds Anything (codes "+") (λ ts. terminal.Mark mark.Plus ∷ ts)
unfolding front signed sign_of
plus_adds = sign_adds 43 (terminal.Mark mark.Plus) (λ rest. refl) refl

pub semicolon_adds : Adds Anything (codes ";") (λ ts. terminal.Mark mark.Semicolon ∷ ts)
unfolding front signed sign_of
semicolon_adds = sign_adds 59 (terminal.Mark mark.Semicolon) (λ rest. refl) refl

pub blank_adds : Adds Anything (codes " ") (λ ts. ts)
unfolding front
blank_adds = record { reads = λ rest ts p r. reads_space 32 rest rest ts 1 refl refl r }

letter_no_times : (b : ℕ) → is_letter b ≡ true → (b == 42) ≡ false
letter_no_times b h = let k = letter_high b h in grind arith

times_front : (b : ℕ) (bs : List ℕ) → (b == 42) ≡ false → front 42 (b ∷ bs) ≡ found.Token (Some (token.Sign (codes "*"))) 1
unfolding front signed
times_front b bs e = ap (λ c. if (c && true) || false then found.Token (Some (token.Sign (42 ∷ b ∷ []))) 2 else found.Token (Some (token.Sign (codes "*"))) 1) e

-- before a name * is no power
pub times_adds : Adds BeginsName (codes "*") (λ ts. terminal.Mark mark.Times ∷ ts)
unfolding sign_of
times_adds = record { reads = times }
  where
    times : (rest : List ℕ) (ts : List Terminal) → BeginsName rest → Reads rest ts → Reads (42 ∷ rest) (terminal.Mark mark.Times ∷ ts)
    times [] ts p r = absurd (cc)
    times (b ∷ bs) ts p r = reads_token 42 (b ∷ bs) (b ∷ bs) (token.Sign (codes "*")) ts 1 (times_front b bs (letter_no_times b p)) refl r

pub number_adds : (n : ℕ) → n < 2 ^ 127 → Adds IsApart (decimal n) (λ ts. number n ∷ ts)
number_adds n h = record { reads = λ rest ts p r. reads_number n rest ts h p r }

pub name_adds : (x : List ℕ) → IsVariable x → Adds IsApart x (λ ts. terminal.Name x ∷ ts)
name_adds x v = record { reads = λ rest ts p r. reads_name x rest ts v p r }

pub word_adds : (b : ℕ) (bs : List ℕ) (w : Word) → is_letter b ≡ true → list_all is_name_part bs ≡ true → worded (b ∷ bs) ≡ Some (token.Word (b ∷ bs)) → word_of (b ∷ bs) ≡ w
    → Adds IsApart (b ∷ bs) (λ ts. terminal.Word w ∷ ts)
word_adds b bs w first all word is = record { reads = λ rest ts p r. subst (λ v. Reads (b ∷ (bs ++ rest)) (terminal.Word v ∷ ts)) is (reads_word b bs rest ts first all word p r) }
