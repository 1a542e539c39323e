-- What stands at the front of bytes is passed over as a whole.
use Rattle.std.proofs.Common.{◌≡◌, ℕ, suc, ◌+◌, Bool, true, false, List, [], ◌∷◌, take, drop, sym, refl, ap, ◌∙◌, subst, inl, inr, arith}
use Rattle.std.specs.Prelude.{if◌then◌else◌, cond, ◌==◌, ◌||◌, ◌&&◌, not, bytes_eq, Some, None, ◌⊎◌}
use Rattle.std.specs.List.{prefix_len, list_all}
use Rattle.std.specs.Cmp.Lexicographic.{bytes_decides}
use Rattle.language_meaning.specs.Names.{is_digit, is_letter, is_name_part, is_one_of, is_word}
use Rattle.language_meaning.specs.declared.lexer.Front.{Front}
use Rattle.language_meaning.specs.declared.lexer.Front.TheVariants as found
use Rattle.language_meaning.specs.declared.token.TokenKind.TheVariants as token
use Rattle.language_meaning.specs.Lexing.{is_blank, is_in_line, long_signs, short_signs, literal_of, worded, signed, front}
use Rattle.language_meaning.specs.Pieces.{is_end}
use Rattle.redlog_tokens.specs.declared.span.Passed.{Passed}
use Rattle.redlog_tokens.specs.declared.span.Passed.TheVariants.{Between, Inside}
use Rattle.redlog_tokens.specs.Spans.{commented, is_mark, passes, span}
use Rattle.redlog_tokens.proofs.Spans.{span_more, span_stops}

cons_drop : (n b : ℕ) (bs : List ℕ) → drop (1 + n) (b ∷ bs) ≡ drop n bs
cons_drop n b bs = let e : 1 + n ≡ suc n = omega arith in ap (λ k. drop k (b ∷ bs)) e

-- ---- bytes of one kind

-- each byte that has the test is passed over and leaves a comment open or closed as it is
abbrev Keeps : Passed → Bool → (ℕ → Bool) → Type 0
Keeps p c q = (b : ℕ) → q b ≡ true → (passes p c b ≡ true) × (commented c b ≡ c)

module _ (p : Passed) (c : Bool) (q : ℕ → Bool) (keeps : Keeps p c q) where
  pub one_kept : (b : ℕ) (bs : List ℕ) → q b ≡ true → span p c (b ∷ bs) ≡ 1 + span p c bs
  one_kept b bs e = let k = keeps b e in span_more p c b bs k.0 ∙ ap (λ d. 1 + span p d bs) k.1

  run_by : (b : ℕ) (bs : List ℕ) (t : Bool) → q b ≡ t → span p c bs ≡ prefix_len q bs + span p c (drop (prefix_len q bs) bs)
      → span p c (b ∷ bs) ≡ cond t (1 + prefix_len q bs) 0 + span p c (drop (cond t (1 + prefix_len q bs) 0) (b ∷ bs))
  run_by b bs true e next =
      let n = prefix_len q bs in
      let one = one_kept b bs e in
      let after = ap (span p c) (cons_drop n b bs) in
      omega (arith, one, next, after)
  run_by b bs false e next = omega arith

  run : (bs : List ℕ) → span p c bs ≡ prefix_len q bs + span p c (drop (prefix_len q bs) bs)
  run [] = omega arith
  run (b ∷ bs) = run_by b bs (q b) refl (run bs)

  -- a byte and those of its kind after it
  pub byte_and_run : (b : ℕ) (bs : List ℕ) → span p c (b ∷ bs) ≡ 1 + span p c bs → span p c (b ∷ bs) ≡ (1 + prefix_len q bs) + span p c (drop (1 + prefix_len q bs) (b ∷ bs))
  byte_and_run b bs one =
      let after = ap (span p c) (cons_drop (prefix_len q bs) b bs) in
      omega (arith, one, run bs, after)

-- ---- comments

line_keeps : (p : Passed) → Keeps p true is_in_line
line_keeps Between b e = (refl, e)
line_keeps Inside b e = (refl, e)

feed_passes : (p : Passed) (bs : List ℕ) → span p true (10 ∷ bs) ≡ span p false (10 ∷ bs)
feed_passes Between bs = refl
feed_passes Inside bs = refl

is_feed : (b : ℕ) → is_in_line b ≡ false → b ≡ 10
is_feed b h = grind arith

-- a comment ends before its line feed, which may stand between tokens too
after_line_by : (p : Passed) (b : ℕ) (bs : List ℕ) (t : Bool) → is_in_line b ≡ t → span p true (drop (prefix_len is_in_line bs) bs) ≡ span p false (drop (prefix_len is_in_line bs) bs)
    → span p true (drop (cond t (1 + prefix_len is_in_line bs) 0) (b ∷ bs)) ≡ span p false (drop (cond t (1 + prefix_len is_in_line bs) 0) (b ∷ bs))
after_line_by p b bs true e next =
    let k = cons_drop (prefix_len is_in_line bs) b bs in
    ap (span p true) k ∙ next ∙ sym (ap (span p false) k)
after_line_by p b bs false e next = subst (λ x. span p true (x ∷ bs) ≡ span p false (x ∷ bs)) (sym (is_feed b e)) (feed_passes p bs)

after_line : (p : Passed) (bs : List ℕ) → span p true (drop (prefix_len is_in_line bs) bs) ≡ span p false (drop (prefix_len is_in_line bs) bs)
after_line p [] = refl
after_line p (b ∷ bs) = after_line_by p b bs (is_in_line b) refl (after_line p bs)

begins_comment : (p : Passed) (b : ℕ) → (b == 37) ≡ true → (passes p false b ≡ true) × (commented false b ≡ true)
begins_comment Between b e = (grind arith, e)
begins_comment Inside b e = (grind arith, e)

comment_passes : (p : Passed) (b : ℕ) (bs : List ℕ) → (b == 37) ≡ true → span p false (b ∷ bs) ≡ (1 + prefix_len is_in_line bs) + span p false (drop (1 + prefix_len is_in_line bs) (b ∷ bs))
comment_passes p b bs e =
    let n = prefix_len is_in_line bs in
    let k = begins_comment p b e in
    let one = span_more p false b bs k.0 ∙ ap (λ d. 1 + span p d bs) k.1 in
    let line = run p true is_in_line (line_keeps p) bs in
    let after = after_line p bs in
    let here = ap (span p false) (cons_drop n b bs) in
    omega (arith, one, line, after, here)

-- ---- blanks, digits and names

blank_keeps : (p : Passed) → Keeps p false is_blank
blank_keeps Between b e = (grind arith, grind arith)
blank_keeps Inside b e = (grind arith, grind arith)

digit_keeps : Keeps Inside false is_digit
digit_keeps b e = (grind arith, grind arith)

part_keeps : Keeps Inside false is_name_part
part_keeps b e = (grind arith, grind arith)

letter_is_part : (b : ℕ) → is_letter b ≡ true → is_name_part b ≡ true
letter_is_part b e = grind arith

-- ---- signs

both : (p q : Bool) → (p && q) ≡ true → (p ≡ true) × (q ≡ true)
both true q h = (refl, h)
both false q h = absurd (cc)

word_by : (q : List ℕ → Bool) (text w : List ℕ) (t : Bool) (rest : Bool) → bytes_eq text w ≡ t → q w ≡ true → (rest ≡ true → q text ≡ true) → (t || rest) ≡ true → q text ≡ true
word_by q text w true rest e h next is = ap q ((bytes_decides text w).0 e) ∙ h
word_by q text w false rest e h next is = next is

-- what holds of all words holds of a text that is one of them
of_word : (q : List ℕ → Bool) (text : List ℕ) (ws : List (List ℕ)) → list_all q ws ≡ true → is_one_of text ws ≡ true → q text ≡ true
of_word q text [] all is = absurd (cc)
of_word q text (w ∷ ws) all is =
    let parts = both (q w) (list_all q ws) all in
    word_by q text w (bytes_eq text w) (is_one_of text ws) refl parts.0 (of_word q text ws parts.1) is

-- neither an end mark nor the beginning of a comment
abbrev is_plain : ℕ → Bool
is_plain b = not (is_mark b) && not (b == 37)

plain_keeps : Keeps Inside false is_plain
plain_keeps b e = grind arith

abbrev are_plain : List ℕ → Bool
are_plain (b ∷ x ∷ []) = (is_plain b && is_plain x) && not (is_end (Some (token.Sign (b ∷ x ∷ []))))
are_plain _ = false

or_false : (p q : Bool) → p ≡ false → q ≡ false → (p || q) ≡ false
or_false true q h k = absurd (cc)
or_false false q h k = k

not_false : (p : Bool) → not p ≡ true → p ≡ false
not_false true h = absurd (cc)
not_false false h = refl

-- ---- what stands at the front

-- it is an end mark, or it is passed over
abbrev pub EndsPiece : Bool → ℕ → List ℕ → Type 0
EndsPiece true n bytes = (n ≡ 1) × (span Inside false bytes ≡ 0)
EndsPiece false n bytes = span Inside false bytes ≡ n + span Inside false (drop n bytes)

-- a blank or a comment is passed over; a token ends the bytes between tokens, and ends the piece or is passed over
abbrev pub IsPassed : Front → List ℕ → Type 0
IsPassed (found.Space n) bytes = (p : Passed) → span p false bytes ≡ n + span p false (drop n bytes)
IsPassed (found.Token kind n) bytes = (span Between false bytes ≡ 0) × EndsPiece (is_end kind) n bytes

mark_by : (b : ℕ) (bs : List ℕ) (m : Bool) → is_mark b ≡ m → (b == 37) ≡ false → EndsPiece m 1 (b ∷ bs)
mark_by b bs true e h = (refl, span_stops Inside false b bs (ap not e))
mark_by b bs false e h = span_more Inside false b bs (ap not e) ∙ ap (λ c. 1 + span Inside c bs) h

sign_is_mark : (b : ℕ) → is_end (Some (token.Sign (b ∷ []))) ≡ is_mark b
sign_is_mark b = grind arith

which_mark : (b : ℕ) → is_mark b ≡ true → (b ≡ 59) ⊎ (b ≡ 36)
which_mark b h = grind arith

marks_are_signs : (b : ℕ) → (b ≡ 59) ⊎ (b ≡ 36) → is_one_of (b ∷ []) short_signs ≡ true
marks_are_signs b (inl e) = subst (λ x. is_one_of (x ∷ []) short_signs ≡ true) (sym e) refl
marks_are_signs b (inr e) = subst (λ x. is_one_of (x ∷ []) short_signs ≡ true) (sym e) refl

unmarked : (b : ℕ) (m : Bool) → is_mark b ≡ m → is_one_of (b ∷ []) short_signs ≡ false → is_mark b ≡ false
unmarked b true e h = let k : true ≡ false = sym (marks_are_signs b (which_mark b e)) ∙ h in absurd (cc)
unmarked b false e h = e

long_by : (b : ℕ) (bs : List ℕ) → is_one_of (take 2 (b ∷ bs)) long_signs ≡ true → EndsPiece (is_end (Some (token.Sign (take 2 (b ∷ bs))))) 2 (b ∷ bs)
long_by b [] h = let k : are_plain (b ∷ []) ≡ true = of_word are_plain (b ∷ []) long_signs refl h in absurd (cc)
long_by b (x ∷ xs) h =
    let k = both (is_plain b && is_plain x) (not (is_end (Some (token.Sign (b ∷ x ∷ []))))) (of_word are_plain (b ∷ x ∷ []) long_signs refl h) in
    let plain = both (is_plain b) (is_plain x) k.0 in
    let first = one_kept Inside false is_plain plain_keeps b (x ∷ xs) plain.0 in
    let second = one_kept Inside false is_plain plain_keeps x xs plain.1 in
    subst (λ t. EndsPiece t 2 (b ∷ x ∷ xs)) (sym (not_false (is_end (Some (token.Sign (b ∷ x ∷ [])))) k.1)) (omega (arith, first, second))

module _ (b : ℕ) (bs : List ℕ) (blank : is_blank b ≡ false) (percent : (b == 37) ≡ false) where
  no_space : span Between false (b ∷ bs) ≡ 0
  no_space = span_stops Between false b bs (or_false (is_blank b) (b == 37) blank percent)

  sign_by : (t u : Bool) → is_one_of (take 2 (b ∷ bs)) long_signs ≡ t → is_one_of (take 1 (b ∷ bs)) short_signs ≡ u
      → IsPassed (if t then found.Token (Some (token.Sign (take 2 (b ∷ bs)))) 2 else (if u then found.Token (Some (token.Sign (take 1 (b ∷ bs)))) 1 else found.Token None 1)) (b ∷ bs)
  sign_by true u e f = (no_space, long_by b bs e)
  sign_by false true e f = (no_space, subst (λ t. EndsPiece t 1 (b ∷ bs)) (sym (sign_is_mark b)) (mark_by b bs (is_mark b) refl percent))
  sign_by false false e f = (no_space, mark_by b bs false (unmarked b (is_mark b) refl f) percent)

  sign_passes : IsPassed (signed (b ∷ bs)) (b ∷ bs)
  unfolding signed
  sign_passes = sign_by (is_one_of (take 2 (b ∷ bs)) long_signs) (is_one_of (take 1 (b ∷ bs)) short_signs) refl refl

word_kind : (t u : Bool) (text : List ℕ) → is_end (if t then None else (if u then Some (token.Word text) else Some (token.Name text))) ≡ false
word_kind true u text = refl
word_kind false true text = refl
word_kind false false text = refl

word_ends_none : (text : List ℕ) → is_end (worded text) ≡ false
unfolding worded
word_ends_none text = word_kind _ (is_word text) text

-- what stands at the front, where these tests are chosen
abbrev fronts : (p q r s : Bool) → ℕ → List ℕ → Front
fronts p q r s b bs =
    if p then found.Space 1
    else (if q then found.Space (1 + prefix_len is_in_line bs)
    else (if r then found.Token (Some (token.Number (literal_of (take (1 + prefix_len is_digit bs) (b ∷ bs))))) (1 + prefix_len is_digit bs)
    else (if s then found.Token (worded (take (1 + prefix_len is_name_part bs) (b ∷ bs))) (1 + prefix_len is_name_part bs)
    else signed (b ∷ bs))))

fronts_pass : (p q r s : Bool) (b : ℕ) (bs : List ℕ) → is_blank b ≡ p → (b == 37) ≡ q → is_digit b ≡ r → is_letter b ≡ s → IsPassed (fronts p q r s b bs) (b ∷ bs)
fronts_pass true q r s b bs ep eq er es = λ p. one_kept p false is_blank (blank_keeps p) b bs ep
fronts_pass false true r s b bs ep eq er es = λ p. comment_passes p b bs eq
fronts_pass false false true s b bs ep eq er es = (no_space b bs ep eq, byte_and_run Inside false is_digit digit_keeps b bs (one_kept Inside false is_digit digit_keeps b bs er))
fronts_pass false false false true b bs ep eq er es =
    let one = one_kept Inside false is_name_part part_keeps b bs (letter_is_part b es) in
    (no_space b bs ep eq, subst (λ t. EndsPiece t (1 + prefix_len is_name_part bs) (b ∷ bs)) (sym (word_ends_none (take (1 + prefix_len is_name_part bs) (b ∷ bs)))) (byte_and_run Inside false is_name_part part_keeps b bs one))
fronts_pass false false false false b bs ep eq er es = sign_passes b bs ep eq

pub front_passes : (b : ℕ) (bs : List ℕ) → IsPassed (front b bs) (b ∷ bs)
unfolding front
front_passes b bs = fronts_pass (is_blank b) (b == 37) (is_digit b) (is_letter b) b bs refl refl refl refl
