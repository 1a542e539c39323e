-- The text of each token that is not bad is a token's.
use Rattle.std.proofs.Common.{◌≡◌, ℕ, suc, ◌+◌, ◌<◌, Bool, true, false, List, [], ◌∷◌, ◌++◌, length, take, drop, sym, refl, ap, ◌∙◌, subst, arith, drop-drop, length-append, append_assoc}
use Rattle.std.specs.Prelude.{cond, not, ◌&&◌, ◌||◌, ◌==◌, Option, Some, None, nat_lt, if◌then◌else◌}
use Rattle.std.specs.List.{prefix_len, list_all, list_any}
use Rattle.std.proofs.lemmas.Bool.{ltb-true, eqb-true}
use Rattle.std.proofs.lemmas.List.Prefix.{front_rest}
use Rattle.language_meaning.specs.Names.{is_digit}
use Rattle.language_meaning.specs.Lexing.{is_blank}
use Rattle.smt_language.specs.declared.lexer.Front.{Front}
use Rattle.smt_language.specs.declared.lexer.Front.TheVariants as found
use Rattle.smt_language.specs.declared.token.SmtLexeme.{SmtLexeme}
use Rattle.smt_language.specs.declared.token.SmtToken.{SmtToken}
use Rattle.smt_language.specs.declared.token.SmtToken.TheVariants as token
use Rattle.smt_language.specs.Lexing.{is_symbol_part, is_in_bars, begins_with_digit, symbol_length, fraction_length, closing_quote, closed_at, quoted, in_bars, barred, keyword, simple, is_padded, number, numbered_by, numbered, front, Lexes, over, spaced, taken}
use Rattle.smt_tokens.specs.Longest.{IsQuoted, nothing, other, doubled, is_barred, IsNumeral, IsSimple, IsToken, opening, closing, numeral, decimal, string, simple as simple_text, barred as barred_text, keyword as keyword_text, IsText, AreTexts}
use Rattle.smt_tokens.proofs.Fronts.{either, some_digit}

-- the bytes begin with a token's text of this length
record HasText (bytes : List ℕ) (n : ℕ) : Type 0 where
  text : List ℕ
  rest : List ℕ
  is : IsToken text
  begins : bytes ≡ text ++ rest
  long : length text ≡ n

abbrev Good : List ℕ → Front → Type 0
Good bytes (found.Space n) = Unit {0}
Good bytes (found.Token k n) = ¬ (k ≡ token.Bad) → HasText bytes n

-- the next byte, if there is one, does not pass
abbrev Stops : (ℕ → Bool) → List ℕ → Type 0
Stops p [] = Unit {0}
Stops p (b ∷ bs) = p b ≡ false

-- the bytes up to the first that does not pass, and the others
record Split (p : ℕ → Bool) (bytes : List ℕ) : Type 0 where
  before : List ℕ
  behind : List ℕ
  is : bytes ≡ before ++ behind
  all : list_all p before ≡ true
  many : length before ≡ prefix_len p bytes
  stop : Stops p behind

split_if : (p : ℕ → Bool) (b : ℕ) (bs : List ℕ) (c : Bool) → p b ≡ c → Split p bs → Split p (b ∷ bs)
split_if p b bs true e s = record {
  before = b ∷ s.before;
  behind = s.behind;
  is = ap (λ rest. b ∷ rest) s.is;
  all = subst (λ c. (c && list_all p s.before) ≡ true) (sym e) s.all;
  many = subst (λ c. suc (length s.before) ≡ cond c (1 + prefix_len p bs) 0) (sym e) (omega (arith, s.many));
  stop = s.stop;
}
split_if p b bs false e s = record {
  before = [];
  behind = b ∷ bs;
  is = refl;
  all = refl;
  many = subst (λ c. 0 ≡ cond c (1 + prefix_len p bs) 0) (sym e) refl;
  stop = e;
}

split : (p : ℕ → Bool) (bytes : List ℕ) → Split p bytes
split p [] = record { before = []; behind = []; is = refl; all = refl; many = refl; stop = tt }
split p (b ∷ bs) = split_if p b bs (p b) refl (split p bs)

take_before : (xs ys : List ℕ) → take (length xs) (xs ++ ys) ≡ xs
take_before [] ys = refl
take_before (x ∷ xs) ys = ap (λ zs. x ∷ zs) (take_before xs ys)

taken_is : {p : ℕ → Bool} {bytes : List ℕ} (s : Split p bytes) (n : ℕ) → length s.before ≡ n → take n bytes ≡ s.before
taken_is {p} {bytes} s n is = ap (λ k. take k bytes) (sym is) ∙ ap (take (length s.before)) s.is ∙ take_before s.before s.behind

dropped_is : {p : ℕ → Bool} {bytes : List ℕ} (s : Split p bytes) (n : ℕ) → length s.before ≡ n → drop n bytes ≡ s.behind
dropped_is {p} {bytes} s n is = ap (λ k. drop k bytes) (sym is) ∙ front_rest bytes s.before s.behind s.is

-- numerals and decimals
padded_bad : (whole fraction : List ℕ) → is_padded whole ≡ true → number whole fraction ≡ token.Bad
unfolding number
padded_bad whole fraction e = rw e

not_padded : (whole fraction : List ℕ) (b : Bool) → is_padded whole ≡ b → ¬ (number whole fraction ≡ token.Bad) → is_padded whole ≡ false
not_padded whole fraction true e good = absurd (good (padded_bad whole fraction e))
not_padded whole fraction false e good = e

-- a point with digits behind it
record Point (bytes : List ℕ) : Type 0 where
  digits : List ℕ
  behind : List ℕ
  is : bytes ≡ 46 ∷ (digits ++ behind)
  all : list_all is_digit digits ≡ true
  many : length digits ≡ fraction_length bytes

point_if : (c : ℕ) (cs : List ℕ) (b : Bool) → (c == 46) ≡ b → 0 < (if b then prefix_len is_digit cs else 0) → Point (c ∷ cs)
point_if c cs true e some =
    let s = split is_digit cs in
    let point : c ≡ 46 = eqb-true c 46 e in
    record {
      digits = s.before;
      behind = s.behind;
      is = ap (λ x. x ∷ cs) point ∙ ap (λ rest. 46 ∷ rest) s.is;
      all = s.all;
      many = subst (λ b. length s.before ≡ (if b then prefix_len is_digit cs else 0)) (sym e) s.many;
    }
point_if c cs false e some = absurd (omega arith)

point : (bytes : List ℕ) → 0 < fraction_length bytes → Point bytes
point [] some = absurd (omega arith)
point (c ∷ cs) some = point_if c cs (c == 46) refl some

by_good : (bytes : List ℕ) (s : Split is_digit bytes) → 0 < length s.before → (w f : ℕ) → length s.before ≡ w → fraction_length s.behind ≡ f → Good bytes (numbered_by bytes w f)
by_good bytes s some w f whole fraction = either (Good bytes) (nat_lt 0 f) _ _ decimal_here numeral_here
  where
    is_numeral : (fraction : List ℕ) → ¬ (number (take w bytes) fraction ≡ token.Bad) → IsNumeral s.before
    is_numeral fraction good = record {
      some = some;
      all = s.all;
      first = ap is_padded (sym (taken_is s w whole)) ∙ not_padded (take w bytes) fraction (is_padded (take w bytes)) refl good;
    }

    decimal_here : nat_lt 0 f ≡ true → ¬ (number (take w bytes) (take f (drop (w + 1) bytes)) ≡ token.Bad) → HasText bytes (w + 1 + f)
    decimal_here e good =
        let p = point s.behind (subst (λ k. 0 < k) (sym fraction) (ltb-true 0 f e)) in
        record {
          text = s.before ++ (46 ∷ p.digits);
          rest = p.behind;
          is = decimal s.before p.digits (is_numeral _ good) (omega (arith, p.many, fraction, ltb-true 0 f e)) p.all;
          begins = s.is ∙ ap (λ rest. s.before ++ rest) p.is ∙ sym (append_assoc s.before (46 ∷ p.digits) p.behind);
          long = omega (arith, length-append s.before (46 ∷ p.digits), p.many, fraction, whole);
        }

    numeral_here : nat_lt 0 f ≡ false → ¬ (number (take w bytes) [] ≡ token.Bad) → HasText bytes w
    numeral_here e good = record { text = s.before; rest = s.behind; is = numeral (is_numeral [] good); begins = s.is; long = whole }

numbered_good : (b : ℕ) (bs : List ℕ) → is_digit b ≡ true → Good (b ∷ bs) (numbered (b ∷ bs))
unfolding numbered
numbered_good b bs e =
    let s = split is_digit (b ∷ bs) in
    by_good (b ∷ bs) s (omega (arith, s.many, some_digit b bs e)) _ _ s.many (ap fraction_length (sym (dropped_is s (prefix_len is_digit (b ∷ bs)) s.many)))

-- strings
record Closed (at n : ℕ) (bytes : List ℕ) : Type 0 where
  inner : List ℕ
  behind : List ℕ
  is : bytes ≡ inner ++ (34 ∷ behind)
  quoted_text : IsQuoted inner
  place : at + length inner ≡ n

same_some : {m n : ℕ} → Some m ≡ Some n → m ≡ n
same_some e = cc

closed_here : (at n b : ℕ) (bs : List ℕ) → (b == 34) ≡ true → at ≡ n → Closed at n (b ∷ bs)
closed_here at n b bs e is = record { inner = []; behind = bs; is = ap (λ x. x ∷ bs) (eqb-true b 34 e); quoted_text = nothing; place = omega (arith, is) }

closed_one : (at n b : ℕ) (p : Bool) → (b == 34) ≡ p → (if p then Some at else None) ≡ Some n → Closed at n (b ∷ [])
closed_one at n b true e is = closed_here at n b [] e (same_some is)
closed_one at n b false e is = cc

closed_two : (at n b c : ℕ) (cs : List ℕ) (p q : Bool) → (b == 34) ≡ p → (c == 34) ≡ q
    → (closing_quote (at + 2) cs ≡ Some n → Closed (at + 2) n cs) → (closing_quote (at + 1) (c ∷ cs) ≡ Some n → Closed (at + 1) n (c ∷ cs))
    → (if p then (if q then closing_quote (at + 2) cs else Some at) else closing_quote (at + 1) (c ∷ cs)) ≡ Some n → Closed at n (b ∷ c ∷ cs)
closed_two at n b c cs true true e f two one is =
    let later = two is in
    record {
      inner = 34 ∷ 34 ∷ later.inner;
      behind = later.behind;
      is = ap (λ x. x ∷ c ∷ cs) (eqb-true b 34 e) ∙ ap (λ x. 34 ∷ x ∷ cs) (eqb-true c 34 f) ∙ ap (λ rest. 34 ∷ 34 ∷ rest) later.is;
      quoted_text = doubled later.quoted_text;
      place = omega (arith, later.place);
    }
closed_two at n b c cs true false e f two one is = closed_here at n b (c ∷ cs) e (same_some is)
closed_two at n b c cs false q e f two one is =
    let later = one is in
    record {
      inner = b ∷ later.inner;
      behind = later.behind;
      is = ap (λ rest. b ∷ rest) later.is;
      quoted_text = other e later.quoted_text;
      place = omega (arith, later.place);
    }

closes : (at n : ℕ) (bytes : List ℕ) → closing_quote at bytes ≡ Some n → Closed at n bytes
closes at n [] is = cc
closes at n (b ∷ []) is = closed_one at n b (b == 34) refl is
closes at n (b ∷ c ∷ cs) is = closed_two at n b c cs (b == 34) (c == 34) refl refl (closes (at + 2) n cs) (closes (at + 1) n (c ∷ cs)) is

closed_text : (bs : List ℕ) (n : ℕ) → Closed 0 n bs → HasText (34 ∷ bs) (2 + n)
closed_text bs n c = record {
  text = 34 ∷ (c.inner ++ (34 ∷ []));
  rest = c.behind;
  is = string c.inner c.quoted_text;
  begins = ap (λ rest. 34 ∷ rest) (c.is ∙ sym (append_assoc c.inner (34 ∷ []) c.behind));
  long = omega (arith, length-append c.inner (34 ∷ []), c.place);
}

closed_good : (bs : List ℕ) (o : Option ℕ) → closing_quote 0 bs ≡ o → Good (34 ∷ bs) (closed_at o (length bs))
closed_good bs (Some n) e = λ good. closed_text bs n (closes 0 n bs e)
closed_good bs None e = λ good. absurd (good refl)

quoted_good : (bs : List ℕ) → Good (34 ∷ bs) (quoted bs)
unfolding quoted
quoted_good bs = closed_good bs (closing_quote 0 bs) refl

-- symbols in bars
no_backslash : (text : List ℕ) (p : Bool) → list_any (λ b. b == 92) text ≡ p → ¬ (in_bars text ≡ token.Bad) → list_any (λ b. b == 92) text ≡ false
unfolding in_bars
no_backslash text true e good = let bad : in_bars text ≡ token.Bad = rw (in_bars, e) refl in absurd (good bad)
no_backslash text false e good = e

all_barred_if : (b : ℕ) (bs : List ℕ) (p q : Bool) → (b == 124) ≡ p → (b == 92) ≡ q → (not p && list_all is_in_bars bs) ≡ true → (q || list_any (λ c. c == 92) bs) ≡ false
    → (list_all is_in_bars bs ≡ true → list_any (λ c. c == 92) bs ≡ false → list_all is_barred bs ≡ true) → (not (p || q) && list_all is_barred bs) ≡ true
all_barred_if b bs true q e f all none later = cc
all_barred_if b bs false true e f all none later = cc
all_barred_if b bs false false e f all none later = later all none

all_barred : (text : List ℕ) → list_all is_in_bars text ≡ true → list_any (λ b. b == 92) text ≡ false → list_all is_barred text ≡ true
all_barred [] all none = refl
all_barred (b ∷ bs) all none = all_barred_if b bs (b == 124) (b == 92) refl refl all none (all_barred bs)

is_bar : (c : ℕ) (p : Bool) → (c == 124) ≡ p → not p ≡ false → c ≡ 124
is_bar c true e stop = eqb-true c 124 e
is_bar c false e stop = cc

in_bars_good : (bs before behind : List ℕ) → bs ≡ before ++ behind → list_all is_in_bars before ≡ true → Stops is_in_bars behind → length before < length bs → list_any (λ b. b == 92) before ≡ false
    → HasText (124 ∷ bs) (2 + length before)
in_bars_good bs before [] is all stop more none = absurd (omega (arith, ap length is, length-append before []))
in_bars_good bs before (c ∷ cs) is all stop more none = record {
  text = 124 ∷ (before ++ (124 ∷ []));
  rest = cs;
  is = barred_text before (all_barred before all none);
  begins = ap (λ rest. 124 ∷ rest) (is ∙ ap (λ x. before ++ (x ∷ cs)) (is_bar c (c == 124) refl stop) ∙ sym (append_assoc before (124 ∷ []) cs));
  long = omega (arith, length-append before (124 ∷ []));
}

barred_good : (bs : List ℕ) → Good (124 ∷ bs) (barred bs)
unfolding barred
barred_good bs = either (Good (124 ∷ bs)) (nat_lt (prefix_len is_in_bars bs) (length bs)) _ _ closed_bar (λ e good. absurd (good refl))
  where
    closed_bar : nat_lt (prefix_len is_in_bars bs) (length bs) ≡ true → ¬ (in_bars (take (prefix_len is_in_bars bs) bs) ≡ token.Bad) → HasText (124 ∷ bs) (2 + prefix_len is_in_bars bs)
    closed_bar e good =
        let s = split is_in_bars bs in
        let same = taken_is s (prefix_len is_in_bars bs) s.many in
        let none = no_backslash (take (prefix_len is_in_bars bs) bs) _ refl good in
        subst (λ n. HasText (124 ∷ bs) (2 + n)) s.many
        (in_bars_good bs s.before s.behind s.is s.all s.stop (omega (arith, s.many, ltb-true (prefix_len is_in_bars bs) (length bs) e)) (ap (list_any (λ b. b == 92)) (sym same) ∙ none))

-- simple symbols and keywords
record Simple (bytes : List ℕ) : Type 0 where
  text : List ℕ
  rest : List ℕ
  is : IsSimple text
  begins : bytes ≡ text ++ rest
  long : length text ≡ symbol_length bytes

simple_at : (bytes before behind : List ℕ) → bytes ≡ before ++ behind → list_all is_symbol_part before ≡ true → begins_with_digit bytes ≡ false → 0 < length before → length before ≡ symbol_length bytes
    → Simple bytes
simple_at bytes [] behind is all first some long = absurd (omega arith)
simple_at bytes (b ∷ bs) behind is all first some long = record {
  text = b ∷ bs;
  rest = behind;
  is = record { first = b; others = bs; bytes = refl; no_digit = ap begins_with_digit (sym is) ∙ first; all = all };
  begins = is;
  long = long;
}

simple_if : (bytes : List ℕ) (p : Bool) → begins_with_digit bytes ≡ p → 0 < (if p then 0 else prefix_len is_symbol_part bytes) → Simple bytes
simple_if bytes true e some = absurd (omega arith)
simple_if bytes false e some =
    let s = split is_symbol_part bytes in
    simple_at bytes s.before s.behind s.is s.all e (omega (arith, s.many)) (subst (λ p. length s.before ≡ (if p then 0 else prefix_len is_symbol_part bytes)) (sym e) s.many)

simple_here : (bytes : List ℕ) → nat_lt 0 (symbol_length bytes) ≡ true → Simple bytes
simple_here bytes e = simple_if bytes (begins_with_digit bytes) refl (ltb-true 0 (symbol_length bytes) e)

keyword_good : (bs : List ℕ) → Good (58 ∷ bs) (keyword bs)
unfolding keyword
keyword_good bs = either (Good (58 ∷ bs)) (nat_lt 0 (symbol_length bs)) _ _ named (λ e good. absurd (good refl))
  where
    named : nat_lt 0 (symbol_length bs) ≡ true → ¬ (token.Keyword ≡ token.Bad) → HasText (58 ∷ bs) (1 + symbol_length bs)
    named e good =
        let s = simple_here bs e in
        record { text = 58 ∷ s.text; rest = s.rest; is = keyword_text s.is; begins = ap (λ rest. 58 ∷ rest) s.begins; long = omega (arith, s.long) }

simple_good : (bytes : List ℕ) → Good bytes (simple bytes)
unfolding simple
simple_good bytes =
    either (Good bytes) (nat_lt 0 (symbol_length bytes)) _ _
    (λ e good. let s = simple_here bytes e in record { text = s.text; rest = s.rest; is = simple_text s.is; begins = s.begins; long = s.long }) (λ e good. absurd (good refl))

parenthesis_good : (b c : ℕ) (bs : List ℕ) (k : SmtToken) → IsToken (c ∷ []) → (b == c) ≡ true → Good (b ∷ bs) (found.Token k 1)
parenthesis_good b c bs k is e good = record { text = c ∷ []; rest = bs; is = is; begins = ap (λ x. x ∷ bs) (eqb-true b c e); long = refl }

along : (b c : ℕ) (bs : List ℕ) (f : Front) → (b == c) ≡ true → Good (c ∷ bs) f → Good (b ∷ bs) f
along b c bs f e g = subst (λ x. Good (x ∷ bs) f) (sym (eqb-true b c e)) g

front_good : (b : ℕ) (bs : List ℕ) → Good (b ∷ bs) (front b bs)
unfolding front
front_good b bs =
    let P = Good (b ∷ bs) in
    either P (is_blank b) _ _ (λ e. tt) (λ e.
    either P (is_digit b) _ _ (numbered_good b bs) (λ e.
    either P (b == 59) _ _ (λ e. tt) (λ e.
    either P (b == 40) _ _ (parenthesis_good b 40 bs token.Open opening) (λ e.
    either P (b == 41) _ _ (parenthesis_good b 41 bs token.Close closing) (λ e.
    either P (b == 34) _ _ (λ e. along b 34 bs (quoted bs) e (quoted_good bs)) (λ e.
    either P (b == 124) _ _ (λ e. along b 124 bs (barred bs) e (barred_good bs)) (λ e.
    either P (b == 58) _ _ (λ e. along b 58 bs (keyword bs) e (keyword_good bs)) (λ e. simple_good (b ∷ bs)))))))))

text_of : (script : List ℕ) (t : SmtLexeme) (bytes : List ℕ) (at n : ℕ) → bytes ≡ drop at script → t.start ≡ at → t.end ≡ at + n → HasText bytes n → IsText script t
text_of script t bytes at n here starts ends has = record {
  text = has.text;
  rest = has.rest;
  is = has.is;
  begins = ap (λ k. drop k script) starts ∙ sym here ∙ has.begins;
  ends = omega (arith, starts, ends, has.long);
}

texts_at : (script : List ℕ) {bytes : List ℕ} {at : ℕ} {ts : List SmtLexeme} → bytes ≡ drop at script → Lexes bytes at ts → AreTexts script ts
texts_at script here over = tt
texts_at script {at = at} here (spaced {n = n} e l) = texts_at script (ap (drop n) here ∙ drop-drop n at script) l
texts_at script {at = at} here (taken {b = b} {bs = bs} {n = n} {t = t} e starts ends l) =
    let good : Good (b ∷ bs) (found.Token t.token n) = subst (Good (b ∷ bs)) e (front_good b bs) in
    (λ fit. text_of script t (b ∷ bs) at n here starts ends (good fit), texts_at script (ap (drop n) here ∙ drop-drop n at script) l)

pub texts : (script : List ℕ) (ts : List SmtLexeme) → Lexes script 0 ts → AreTexts script ts
texts script ts l = texts_at script refl l
