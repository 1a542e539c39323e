-- What a splitter holds after it was fed, and what it hands out.
use Rattle.std.proofs.Common.{◌≡◌, ℕ, zero, suc, ◌+◌, ◌-◌, ◌<◌, ◌≤◌, Bool, true, false, List, [], ◌∷◌, ◌++◌, length, take, drop, sym, refl, ap, ◌∙◌, subst, inl, inr, arith, length-drop, length-append, add-zero, rules}
use Rattle.std.proofs.Math.Nat.{eq-or-lt_of_le}
use Rattle.std.proofs.Math.Seq.{drop-append-add}
use Rattle.std.proofs.lemmas.List.{drop-append-le, drop_all, take_all, length-take-le}
use Rattle.std.specs.Prelude.{◌⊎◌, nat_lt, Option}
use Rattle.std.specs.declared.alloc.Global.{Global}
use Rattle.std.specs.declared.vec.Vec.{Vec}
use Rattle.language_meaning.specs.Pieces.{HasNoTokenFrom, IsPiece}
use Rattle.redlog_tokens.proofs.Cutting.{piece_or_none}
use Rattle.redlog_tokens.specs.declared.span.Passed.{Passed}
use Rattle.redlog_tokens.specs.declared.span.Passed.TheVariants.{Between, Inside}
use Rattle.redlog_tokens.specs.Spans.{span, comment_after}
use Rattle.redlog_tokens.specs.Pieces.{Held, IsMarked, IsKept, Follows, HasBytes, CutsOff, IsLast}
use Rattle.language_meaning.specs.OpenPiece.{IsOpen}
use Rattle.redlog_tokens.proofs.Spans.{span_within, span_of_all, span_of_front, comment_of_both, fewer_between, closed_after_mark, first_mark}
use Rattle.redlog_tokens.proofs.Places.{IsPlace, place, no_token}

-- ---- which piece comes next

module _ (script : List ℕ) (from : ℕ) (within : from ≤ length script) where
  piece_at : (start end : ℕ) → (HasNoTokenFrom script from ⊎ ((a : ℕ) × (b : ℕ) × IsPiece script from a b)) → span Between false (drop from script) < length (drop from script)
      → ((a b : ℕ) → IsPlace script from a b → (a ≡ start) × (b ≡ end)) → IsPiece script from start end
  piece_at start end (inl none) some at = absurd (omega (arith, no_token script from none, some))
  piece_at start end (inr p) some at =
      let same = at p.0 p.1 (place script from p.0 p.1 within p.2) in
      subst (λ b. IsPiece script from start b) same.1 (subst (λ a. IsPiece script from a p.1) same.0 p.2)

  -- the first end mark ends the next piece
  pub piece_marked : span Inside false (drop from script) < length (drop from script)
      → IsPiece script from (from + span Between false (drop from script)) (from + span Inside false (drop from script) + 1)
  piece_marked h = piece_at _ _ (piece_or_none script from) (omega (arith, h, fewer_between false (drop from script))) (λ a b p. (p.begins, p.marked h))

  -- with no end mark it is the last
  pub piece_unmarked : span Inside false (drop from script) ≡ length (drop from script) → span Between false (drop from script) < length (drop from script)
      → IsPiece script from (from + span Between false (drop from script)) (length script)
  piece_unmarked h some = piece_at _ _ (piece_or_none script from) some (λ a b p. (p.begins, p.unmarked h))

  none_by : HasNoTokenFrom script from ⊎ ((a : ℕ) × (b : ℕ) × IsPiece script from a b) → span Between false (drop from script) ≡ length (drop from script) → HasNoTokenFrom script from
  none_by (inl none) h = none
  none_by (inr p) h = let at = place script from p.0 p.1 within p.2 in absurd (omega (arith, at.some, h))

  -- where all bytes stand between tokens there is none
  pub none_begun : span Between false (drop from script) ≡ length (drop from script) → HasNoTokenFrom script from
  none_begun h = none_by (piece_or_none script from) h

-- ---- fed

-- so many bytes are taken, of which so many stand before the first end mark
abbrev pub Taken : Bool → ℕ → ℕ → Type 0
Taken true m n = n ≡ m + 1
Taken false m n = n ≡ m

pub taken_marked : (m n a : ℕ) → m < a → n ≡ m + 1 → Taken (nat_lt m a) m n
taken_marked m n a h e = let is : nat_lt m a ≡ true = search (rules, h) in subst (λ w. Taken w m n) (sym is) e

pub taken_all : (m n a : ℕ) → a ≤ m → n ≡ m → Taken (nat_lt m a) m n
taken_all m n a h e = let is : nat_lt m a ≡ false = search (rules, h) in subst (λ w. Taken w m n) (sym is) e

-- what is taken: its number is that of the bytes, the comment after it is that before a mark, and it ends with the mark
record IsFront (c : Bool) (bytes : List ℕ) (m n : ℕ) (w : Bool) : Type 0 where
  within : n ≤ length bytes
  comment : comment_after c (take m bytes) ≡ comment_after c (take n bytes)
  marked : w ≡ true → span Inside c (take n bytes) + 1 ≡ n
  unmarked : w ≡ false → span Inside c (take n bytes) ≡ n

front_taken : (c : Bool) (bytes : List ℕ) (m n : ℕ) (w : Bool) → m ≡ span Inside c bytes → nat_lt m (length bytes) ≡ w → Taken w m n → IsFront c bytes m n w
front_taken c bytes m n true e h t =
    let small : m < length bytes = search (rules, h) in
    let mark = first_mark c bytes m e small in
    let spans : span Inside c (take n bytes) ≡ m = ap (λ k. span Inside c (take k bytes)) t ∙ mark.first in
    let many : n ≤ length bytes = omega (arith, small, t) in
    let size : length (take n bytes) ≡ n = length-take-le n bytes many in
    record {
      within = many;
      comment = mark.closed ∙ sym (closed_after_mark c (take n bytes) (omega (arith, spans, t, size)));
      marked = λ k. omega (arith, spans, t);
      unmarked = λ k. absurd (cc);
    }
front_taken c bytes m n false e h t =
    let large : length bytes ≤ m = search (rules, h) in
    let all : m ≡ length bytes = omega (arith, large, e, span_within Inside c bytes) in
    let same : take n bytes ≡ bytes = take_all n bytes (omega (arith, t, large)) in
    record {
      within = omega (arith, t, all);
      comment = ap (λ k. comment_after c (take k bytes)) (sym t);
      marked = λ k. absurd (cc);
      unmarked = λ k. ap (span Inside c) same ∙ sym e ∙ sym t;
    }

-- the slice of a front from a place on
pub slice_of_front : (n k : ℕ) (bytes : List ℕ) → take (n - k) (drop k bytes) ≡ drop k (take n bytes)
slice_of_front n zero bytes = let e : n - 0 ≡ n = omega arith in ap (λ m. take m bytes) e
slice_of_front zero (suc k) bytes = let e : 0 - suc k ≡ 0 = omega arith in ap (λ m. take m (drop (suc k) bytes)) e
slice_of_front (suc n) (suc k) [] = take_all (suc n - suc k) [] (omega arith)
slice_of_front (suc n) (suc k) (b ∷ bytes) = let e : suc n - suc k ≡ n - k = omega arith in ap (λ m. take m (drop k bytes)) e ∙ slice_of_front n k bytes

-- the blanks that are not kept: none where a token stands already
pub record AreBlanks (c : Bool) (fed start : ℕ) (front : List ℕ) (k : ℕ) : Type 0 where
  pub begun : start < fed → k ≡ 0
  pub none : fed ≤ start → k ≡ span Between c front

is_marked : (w : Bool) (bytes : List ℕ) → (w ≡ true → span Inside false bytes + 1 ≡ length bytes) → (w ≡ false → span Inside false bytes ≡ length bytes) → IsMarked bytes w
is_marked true bytes a b = a refl
is_marked false bytes a b = b refl

not_whole : (w : Bool) (bytes : List ℕ) → w ≡ false → IsMarked bytes w → span Inside false bytes ≡ length bytes
not_whole true bytes e h = absurd (cc)
not_whole false bytes e h = h

-- more bytes in the front of a text from a place on
more_from : (fed front : List ℕ) (from : ℕ) → from ≤ length fed → drop from (fed ++ front) ≡ drop from fed ++ front
more_from fed front from h = drop-append-le from fed front h

module _ (seen front : List ℕ) (c : Bool) (at : c ≡ comment_after false seen) where
  span_goes_on : (p : Passed) → span p false seen ≡ length seen → span p false (seen ++ front) ≡ length seen + span p c front
  span_goes_on p h = span_of_all p false seen front h ∙ ap (λ d. length seen + span p d front) (sym at)

  start_by : (fed from start k : ℕ) → (start ≡ fed) ⊎ (start < fed) → start ≡ from + span Between false seen → fed ≡ from + length seen → AreBlanks c fed start front k
      → start + k ≡ from + span Between false (seen ++ front)
  start_by fed from start k (inl same) e h b =
      let all : span Between false seen ≡ length seen = omega (arith, same, e, h) in
      let more = span_goes_on Between all in
      let here = b.none (omega (arith, same)) in
      omega (arith, more, here, same, e, h, all)
  start_by fed from start k (inr less) e h b =
      let some : span Between false seen < length seen = omega (arith, less, e, h) in
      let same = span_of_front Between false seen front some in
      let here = b.begun less in
      omega (arith, same, here, e)

  mark_by : (w : Bool) → span Inside false seen ≡ length seen → (w ≡ true → span Inside c front + 1 ≡ length front) → (w ≡ false → span Inside c front ≡ length front) → IsMarked (seen ++ front) w
  mark_by w h a b =
      let more = span_goes_on Inside h in
      is_marked w (seen ++ front) (λ e. omega (arith, more, a e, length-append seen front)) (λ e. omega (arith, more, b e, length-append seen front))

-- what is kept of the piece
kept_by : (fed front : List ℕ) (start k : ℕ) → (start ≡ length fed) ⊎ (start < length fed) → (start < length fed → k ≡ 0) → drop (start + k) (fed ++ front) ≡ drop start fed ++ drop k front
kept_by fed front start k (inl same) b =
    let none : drop start fed ≡ [] = drop_all start fed (omega (arith, same)) in
    ap (λ n. drop (n + k) (fed ++ front)) same ∙ drop-append-add fed front k ∙ sym (ap (λ xs. xs ++ drop k front) none)
kept_by fed front start k (inr less) b =
    let none = b less in
    let same : start + k ≡ start = omega (arith, none) in
    ap (λ n. drop n (fed ++ front)) same ∙ drop-append-le start fed front (omega (arith, less)) ∙ ap (λ n. drop start fed ++ drop n front) (sym none)

-- after more bytes
pub fed_follows : (fed bytes held : List ℕ) (from m n k : ℕ) (s : Held) (c w : Bool) → c ≡ comment_after s.comment (take m bytes) → s.whole ≡ false → s.start ≤ s.fed → m ≡ span Inside s.comment bytes → nat_lt m (length bytes) ≡ w → Taken w m n
    → AreBlanks s.comment s.fed s.start (take n bytes) k
    → ((piece : List ℕ) → length piece ≡ s.fed - s.start → IsKept piece s.bytes → IsKept (piece ++ drop k (take n bytes)) held)
    → Follows fed from s → Follows (fed ++ take n bytes) from (record { bytes = held; fed = s.fed + n; start = s.start + k; comment = c; whole = w })
fed_follows fed bytes held from m n k s c w after quiet order spans is t blanks keeps f =
    let begun_piece = drop from fed in
    let front = take n bytes in
    let taken = front_taken s.comment bytes m n w spans is t in
    let size : length front ≡ n = length-take-le n bytes taken.within in
    let more : drop from (fed ++ front) ≡ begun_piece ++ front = more_from fed front from f.within in
    let rest : s.fed ≡ from + length begun_piece = omega (arith, f.count, f.within, length-drop from fed) in
    let inside = not_whole s.whole begun_piece quiet f.mark in
    let begun = eq-or-lt_of_le order in
    let piece = drop s.start fed in
    let kept = keeps piece (omega (arith, f.count, order, length-drop s.start fed)) f.kept in
    record {
      count = omega (arith, f.count, size, length-append fed front);
      within = omega (arith, f.within, length-append fed front);
      comment = after ∙ taken.comment ∙ ap (λ d. comment_after d front) f.comment ∙ sym (comment_of_both false begun_piece front) ∙ sym (ap (comment_after false) more);
      mark = subst (λ xs. IsMarked xs w) (sym more) (mark_by begun_piece front s.comment f.comment w inside (λ e. omega (arith, taken.marked e, size)) (λ e. omega (arith, taken.unmarked e, size)));
      start = start_by begun_piece front s.comment f.comment s.fed from s.start k begun f.start rest blanks ∙ sym (ap (λ xs. from + span Between false xs) more);
      kept = subst (λ xs. IsKept xs held) (sym (kept_by fed front s.start k (subst (λ x. (s.start ≡ x) ⊎ (s.start < x)) f.count begun) (λ h. blanks.begun (omega (arith, h, f.count))))) kept;
    }

-- ---- handed out

whole_marked : (w : Bool) (bytes : List ℕ) → w ≡ true → IsMarked bytes w → span Inside false bytes + 1 ≡ length bytes
whole_marked true bytes e h = h
whole_marked false bytes e h = absurd (cc)

module _ (fed : List ℕ) (from : ℕ) (s : Held) (f : Follows fed from s) where
  -- all that is fed, from the piece on
  rest_of : s.fed ≡ from + length (drop from fed)
  rest_of = omega (arith, f.count, f.within, length-drop from fed)

  module _ (yes : s.whole ≡ true) where
    mark_of : span Inside false (drop from fed) + 1 ≡ length (drop from fed)
    mark_of = whole_marked s.whole (drop from fed) yes f.mark

    cut_piece : (more : List ℕ) → IsPiece (fed ++ more) from s.start (length fed)
    cut_piece more =
        let longer = more_from fed more from f.within in
        let inside : span Inside false (drop from fed) < length (drop from fed) = omega (arith, mark_of) in
        let between : span Between false (drop from fed) < length (drop from fed) = omega (arith, inside, fewer_between false (drop from fed)) in
        let mark : span Inside false (drop from (fed ++ more)) ≡ span Inside false (drop from fed) = ap (span Inside false) longer ∙ span_of_front Inside false (drop from fed) more inside in
        let first : span Between false (drop from (fed ++ more)) ≡ span Between false (drop from fed) = ap (span Between false) longer ∙ span_of_front Between false (drop from fed) more between in
        let size = ap length longer ∙ length-append (drop from fed) more in
        let p = piece_marked (fed ++ more) from (omega (arith, f.within, length-append fed more)) (omega (arith, inside, mark, size)) in
        let starts : from + span Between false (drop from (fed ++ more)) ≡ s.start = omega (arith, first, f.start) in
        let ends : from + span Inside false (drop from (fed ++ more)) + 1 ≡ length fed = omega (arith, mark, mark_of, rest_of, f.count) in
        subst (λ b. IsPiece (fed ++ more) from s.start b) ends (subst (λ a. IsPiece (fed ++ more) from a (from + span Inside false (drop from (fed ++ more)) + 1)) starts p)

    pub cut_off : (o : Option (Vec ℕ Global)) → HasBytes (drop s.start fed) o → CutsOff fed from (record { offset = s.start; bytes = o })
    cut_off o h = record { begins = omega (arith, f.start, f.count, rest_of, mark_of, fewer_between false (drop from fed)); piece = cut_piece; bytes = h }

    pub after_cut : Follows fed (length fed) (record { bytes = []; fed = s.fed; start = s.fed; comment = s.comment; whole = false })
    after_cut =
        let none : drop (length fed) fed ≡ [] = drop_all (length fed) fed (omega arith) in
        let left : drop s.fed fed ≡ [] = drop_all s.fed fed (omega (arith, f.count)) in
        record {
          count = f.count;
          within = omega arith;
          comment = f.comment ∙ closed_after_mark false (drop from fed) mark_of ∙ sym (ap (comment_after false) none);
          mark = subst (λ xs. IsMarked xs false) (sym none) refl;
          start = f.count ∙ sym (ap (λ xs. length fed + span Between false xs) none ∙ add-zero (length fed));
          kept = subst (λ xs. IsKept xs []) (sym left) (record { within = λ h. refl; past = λ h. refl });
        }

  module _ (quiet : s.whole ≡ false) where
    inside_all : span Inside false (drop from fed) ≡ length (drop from fed)
    inside_all = not_whole s.whole (drop from fed) quiet f.mark

    pub last_piece : s.start < s.fed → (o : Option (Vec ℕ Global)) → HasBytes (drop s.start fed) o → IsLast fed from (record { offset = s.start; bytes = o })
    last_piece some o h =
        let begun : span Between false (drop from fed) < length (drop from fed) = omega (arith, some, f.start, rest_of) in
        record {
          begins = omega (arith, some, f.count);
          piece = subst (λ a. IsPiece fed from a (length fed)) (sym f.start) (piece_unmarked fed from f.within inside_all begun);
          bytes = h;
        }

    pub none_last : s.start ≡ s.fed → HasNoTokenFrom fed from
    none_last same = none_begun fed from f.within (omega (arith, same, f.start, rest_of))

    ends_later : (longer : List ℕ) (end x : ℕ) (rest : ℕ) → span Inside false (drop from longer) ≡ length (drop from fed) + x → length (drop from longer) ≡ length (drop from fed) + rest → length longer ≡ length fed + rest → 0 < rest
        → (x ≡ rest) ⊎ (x < rest) → (start : ℕ) → IsPlace longer from start end → length fed < end
    ends_later longer end x rest e size all some (inl same) start p = let k = p.unmarked (omega (arith, e, size, same)) in omega (arith, k, all, some)
    ends_later longer end x rest e size all some (inr less) start p = let k = p.marked (omega (arith, e, size, less)) in omega (arith, k, e, rest_of, f.count)

    pub still_open : IsOpen fed from
    still_open b more start end p =
        let longer = more_from fed (b ∷ more) from f.within in
        let spans = ap (span Inside false) longer ∙ span_of_all Inside false (drop from fed) (b ∷ more) inside_all in
        let x = span Inside (comment_after false (drop from fed)) (b ∷ more) in
        let size = ap length longer ∙ length-append (drop from fed) (b ∷ more) in
        let all = length-append fed (b ∷ more) in
        ends_later (fed ++ b ∷ more) end x (length (b ∷ more)) spans size all (omega arith)
        (eq-or-lt_of_le (span_within Inside (comment_after false (drop from fed)) (b ∷ more))) start
        (place (fed ++ b ∷ more) from start end (omega (arith, f.within, all)) p)
