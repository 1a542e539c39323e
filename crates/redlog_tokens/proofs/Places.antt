-- Where the next piece begins and ends, by the bytes alone.
use Rattle.std.proofs.Common.{◌≡◌, ℕ, ◌+◌, ◌<◌, ◌≤◌, true, false, List, [], ◌∷◌, length, drop, sym, refl, ◌∙◌, subst, inl, inr, arith, length-drop}
use Rattle.std.proofs.Math.Nat.{eq-or-lt_of_le}
use Rattle.std.specs.Prelude.{◌⊎◌}
use Rattle.language_meaning.specs.declared.lexer.Lexeme.{Lexeme}
use Rattle.language_meaning.specs.Lexing.{Lexes, over, spaced, taken}
use Rattle.language_meaning.specs.Pieces.{Cuts, last, marked, inside, HasNoTokenFrom, IsPiece}
use Rattle.redlog_tokens.specs.declared.span.Passed.TheVariants.{Between, Inside}
use Rattle.redlog_tokens.specs.Spans.{span}
use Rattle.redlog_tokens.proofs.Spans.{span_within}
use Rattle.redlog_tokens.proofs.Fronts.{IsPassed, EndsPiece, front_passes}

-- the first token stands after the bytes between tokens, and there is none where these are all
abbrev Begins : ℕ → List ℕ → List Lexeme → Type 0
Begins at bytes [] = span Between false bytes ≡ length bytes
Begins at bytes (t ∷ ts) = (t.start ≡ at + span Between false bytes) × (span Between false bytes < length bytes)

begins_later : (at n : ℕ) (bytes : List ℕ) (ts : List Lexeme) → span Between false bytes ≡ n + span Between false (drop n bytes) → Begins (at + n) (drop n bytes) ts → Begins at bytes ts
begins_later at n bytes [] e h = omega (arith, e, h, length-drop n bytes, span_within Between false bytes)
begins_later at n bytes (t ∷ ts) e h = (omega (arith, e, h.0), omega (arith, e, h.1, length-drop n bytes))

begins : {bytes : List ℕ} {at : ℕ} {ts : List Lexeme} → Lexes bytes at ts → Begins at bytes ts
begins over = refl
begins {at = at} {ts = ts} (spaced {b = b} {bs = bs} {n = n} e l) =
    let passed = subst (λ f. IsPassed f (b ∷ bs)) e (front_passes b bs) in
    begins_later at n (b ∷ bs) ts (passed Between) (begins l)
begins (taken {b = b} {bs = bs} {n = n} {t = t} e starts ends l) =
    let passed = subst (λ f. IsPassed f (b ∷ bs)) e (front_passes b bs) in
    (omega (arith, starts, passed.0), omega (arith, passed.0))

-- the piece ends with the first end mark, or with the bytes where there is none
record Ends (at : ℕ) (bytes : List ℕ) (end : ℕ) : Type 0 where
  pub marked : span Inside false bytes < length bytes → end ≡ at + span Inside false bytes + 1
  pub unmarked : span Inside false bytes ≡ length bytes → end ≡ at + length bytes

ends_later : (at n : ℕ) (bytes : List ℕ) (end : ℕ) → span Inside false bytes ≡ n + span Inside false (drop n bytes) → Ends (at + n) (drop n bytes) end → Ends at bytes end
ends_later at n bytes end e h = record {
  marked = λ k. let m = h.marked (omega (arith, e, k, length-drop n bytes)) in omega (arith, e, m);
  unmarked = λ k. let m = h.unmarked (omega (arith, e, k, length-drop n bytes, span_within Inside false (drop n bytes))) in omega (arith, e, k, m, length-drop n bytes, span_within Inside false (drop n bytes));
}

ends_here : (at n b : ℕ) (bs : List ℕ) (t : Lexeme) → t.end ≡ at + n → EndsPiece true n (b ∷ bs) → Ends at (b ∷ bs) t.end
ends_here at n b bs t ends h = record { marked = λ k. omega (arith, ends, h.0, h.1); unmarked = λ k. absurd (omega (arith, h.1, k)) }

ends_at : {bytes : List ℕ} {at total end : ℕ} {ts rest : List Lexeme} → Lexes bytes at ts → Cuts total ts end rest → total ≡ at + length bytes → Ends at bytes end
ends_at over last e = record { marked = λ k. absurd (omega (arith, k)); unmarked = λ k. e }
ends_at {at = at} {end = end} (spaced {b = b} {bs = bs} {n = n} e l) c total =
    let passed = subst (λ f. IsPassed f (b ∷ bs)) e (front_passes b bs) in
    let whole = span_within Inside false (b ∷ bs) in
    let here = passed Inside in
    ends_later at n (b ∷ bs) end here (ends_at l c (omega (arith, total, length-drop n (b ∷ bs), whole, here)))
ends_at {at = at} {end = end} (taken {b = b} {bs = bs} {n = n} {t = t} e starts ends l) (marked m) total =
    let passed = subst (λ f. IsPassed f (b ∷ bs)) e (front_passes b bs) in
    ends_here at n b bs t ends (subst (λ k. EndsPiece k n (b ∷ bs)) m passed.1)
ends_at {at = at} {end = end} (taken {b = b} {bs = bs} {n = n} {t = t} e starts ends l) (inside m c) total =
    let passed = subst (λ f. IsPassed f (b ∷ bs)) e (front_passes b bs) in
    let whole = span_within Inside false (b ∷ bs) in
    let here = subst (λ k. EndsPiece k n (b ∷ bs)) m passed.1 in
    ends_later at n (b ∷ bs) end here (ends_at l c (omega (arith, total, length-drop n (b ∷ bs), whole, here)))

-- the place of a piece
pub record IsPlace (script : List ℕ) (from start end : ℕ) : Type 0 where
  pub begins : start ≡ from + span Between false (drop from script)
  pub some : span Between false (drop from script) < length (drop from script)
  pub marked : span Inside false (drop from script) < length (drop from script) → end ≡ from + span Inside false (drop from script) + 1
  pub unmarked : span Inside false (drop from script) ≡ length (drop from script) → end ≡ length script

pub place : (script : List ℕ) (from start end : ℕ) → from ≤ length script → IsPiece script from start end → IsPlace script from start end
place script from start end within p =
    let first = begins p.tokens in
    let ends = ends_at p.tokens p.cut (omega (arith, within, length-drop from script)) in
    record {
      begins = sym p.begins ∙ first.0;
      some = first.1;
      marked = ends.marked;
      unmarked = λ e. let k = ends.unmarked e in omega (arith, k, within, length-drop from script);
    }

within_by : (script : List ℕ) (from start end : ℕ) → from ≤ length script → IsPlace script from start end
    → (span Inside false (drop from script) ≡ length (drop from script)) ⊎ (span Inside false (drop from script) < length (drop from script)) → end ≤ length script
within_by script from start end within p (inl h) = omega (arith, p.unmarked h)
within_by script from start end within p (inr h) = omega (arith, p.marked h, h, within, length-drop from script)

-- a piece ends in the script
pub piece_within : (script : List ℕ) (from start end : ℕ) → from ≤ length script → IsPiece script from start end → end ≤ length script
piece_within script from start end within p =
    within_by script from start end within (place script from start end within p) (eq-or-lt_of_le (span_within Inside false (drop from script)))

pub no_token : (script : List ℕ) (from : ℕ) → HasNoTokenFrom script from → span Between false (drop from script) ≡ length (drop from script)
no_token script from l = begins l
