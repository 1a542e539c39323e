-- Bytes that are passed over, in front of others.
use Rattle.std.proofs.Common.{◌≡◌, ℕ, zero, suc, ◌+◌, ◌<◌, ◌≤◌, Bool, true, false, List, [], ◌∷◌, ◌++◌, length, take, drop, get_or, sym, refl, ap, ◌∙◌, arith, drop-cons, zero-add, add-one}
use Rattle.std.specs.Prelude.{if◌then◌else◌}
use Rattle.redlog_tokens.specs.declared.span.Passed.{Passed}
use Rattle.redlog_tokens.specs.declared.span.Passed.TheVariants.{Between, Inside}
use Rattle.redlog_tokens.specs.Spans.{commented, passes, span, comment_after}

pub span_more : (p : Passed) (c : Bool) (b : ℕ) (bs : List ℕ) → passes p c b ≡ true → span p c (b ∷ bs) ≡ 1 + span p (commented c b) bs
span_more p c b bs h = ap (λ t. if t then 1 + span p (commented c b) bs else 0) h

pub span_stops : (p : Passed) (c : Bool) (b : ℕ) (bs : List ℕ) → passes p c b ≡ false → span p c (b ∷ bs) ≡ 0
span_stops p c b bs h = ap (λ t. if t then 1 + span p (commented c b) bs else 0) h

-- ---- no longer than the bytes

within_by : (p : Passed) (c : Bool) (b : ℕ) (bs : List ℕ) (t : Bool) → passes p c b ≡ t → span p (commented c b) bs ≤ length bs → span p c (b ∷ bs) ≤ length (b ∷ bs)
within_by p c b bs true e h = omega (arith, span_more p c b bs e)
within_by p c b bs false e h = omega (arith, span_stops p c b bs e)

pub span_within : (p : Passed) (c : Bool) (bs : List ℕ) → span p c bs ≤ length bs
span_within p c [] = omega arith
span_within p c (b ∷ bs) = within_by p c b bs (passes p c b) refl (span_within p (commented c b) bs)

-- ---- bytes in front of others

module _ (p : Passed) (c : Bool) (b : ℕ) (bs more : List ℕ) where
  all_by : (t : Bool) → passes p c b ≡ t → (span p (commented c b) bs ≡ length bs → span p (commented c b) (bs ++ more) ≡ length bs + span p (comment_after (commented c b) bs) more)
      → span p c (b ∷ bs) ≡ length (b ∷ bs) → span p c (b ∷ (bs ++ more)) ≡ length (b ∷ bs) + span p (comment_after (commented c b) bs) more
  all_by true e next h = let later = next (omega (arith, span_more p c b bs e, h)) in omega (arith, span_more p c b (bs ++ more) e, later)
  all_by false e next h = absurd (omega (arith, span_stops p c b bs e, h))

  front_by : (t : Bool) → passes p c b ≡ t → (span p (commented c b) bs < length bs → span p (commented c b) (bs ++ more) ≡ span p (commented c b) bs)
      → span p c (b ∷ bs) < length (b ∷ bs) → span p c (b ∷ (bs ++ more)) ≡ span p c (b ∷ bs)
  front_by true e next h = let later = next (omega (arith, span_more p c b bs e, h)) in omega (arith, span_more p c b (bs ++ more) e, span_more p c b bs e, later)
  front_by false e next h = omega (arith, span_stops p c b (bs ++ more) e, span_stops p c b bs e)

-- all are passed over, so what follows is looked at too
pub span_of_all : (p : Passed) (c : Bool) (bs more : List ℕ) → span p c bs ≡ length bs → span p c (bs ++ more) ≡ length bs + span p (comment_after c bs) more
span_of_all p c [] more h = sym (zero-add (span p c more))
span_of_all p c (b ∷ bs) more h = all_by p c b bs more (passes p c b) refl (span_of_all p (commented c b) bs more) h

-- one is not, so what follows is not looked at
pub span_of_front : (p : Passed) (c : Bool) (bs more : List ℕ) → span p c bs < length bs → span p c (bs ++ more) ≡ span p c bs
span_of_front p c [] more h = absurd (omega arith)
span_of_front p c (b ∷ bs) more h = front_by p c b bs more (passes p c b) refl (span_of_front p (commented c b) bs more) h

pub comment_of_both : (c : Bool) (bs more : List ℕ) → comment_after c (bs ++ more) ≡ comment_after (comment_after c bs) more
comment_of_both c [] more = refl
comment_of_both c (b ∷ bs) more = comment_of_both (commented c b) bs more

-- ---- end marks

between_inside : (c : Bool) (b : ℕ) → passes Between c b ≡ true → passes Inside c b ≡ true
between_inside true b h = refl
between_inside false b h = grind arith

mark_opens_none : (c : Bool) (b : ℕ) → passes Inside c b ≡ false → commented c b ≡ false
mark_opens_none true b h = absurd (cc)
mark_opens_none false b h = grind arith

fewer_by : (c : Bool) (b : ℕ) (bs : List ℕ) (t : Bool) → passes Between c b ≡ t → span Between (commented c b) bs ≤ span Inside (commented c b) bs → span Between c (b ∷ bs) ≤ span Inside c (b ∷ bs)
fewer_by c b bs true e h = omega (arith, span_more Between c b bs e, span_more Inside c b bs (between_inside c b e))
fewer_by c b bs false e h = omega (arith, span_stops Between c b bs e)

-- no end mark stands between tokens
pub fewer_between : (c : Bool) (bs : List ℕ) → span Between c bs ≤ span Inside c bs
fewer_between c [] = omega arith
fewer_between c (b ∷ bs) = fewer_by c b bs (passes Between c b) refl (fewer_between (commented c b) bs)

none_left : (c : Bool) (bs : List ℕ) → length bs ≡ 0 → c ≡ false → comment_after c bs ≡ false
none_left c [] h e = e
none_left c (b ∷ bs) h e = absurd (omega arith)

closed_by : (c : Bool) (b : ℕ) (bs : List ℕ) (t : Bool) → passes Inside c b ≡ t → (span Inside (commented c b) bs + 1 ≡ length bs → comment_after (commented c b) bs ≡ false) → span Inside c (b ∷ bs) + 1 ≡ length (b ∷ bs)
    → comment_after (commented c b) bs ≡ false
closed_by c b bs true e next h = next (omega (arith, span_more Inside c b bs e, h))
closed_by c b bs false e next h = none_left (commented c b) bs (omega (arith, span_stops Inside c b bs e, h)) (mark_opens_none c b e)

-- no comment is open after an end mark
pub closed_after_mark : (c : Bool) (bs : List ℕ) → span Inside c bs + 1 ≡ length bs → comment_after c bs ≡ false
closed_after_mark c [] h = absurd (omega arith)
closed_after_mark c (b ∷ bs) h = closed_by c b bs (passes Inside c b) refl (closed_after_mark (commented c b) bs) h

-- ---- byte after byte

-- one more byte is passed over
pub one_more : (p : Passed) (c : Bool) (bs : List ℕ) (i : ℕ) → i < length bs → passes p c (get_or bs i 0) ≡ true → span p c (drop i bs) ≡ 1 + span p (commented c (get_or bs i 0)) (drop (i + 1) bs)
one_more p c bs i h e =
    ap (span p c) (drop-cons bs i 0 h) ∙ span_more p c (get_or bs i 0) (drop (suc i) bs) e ∙ ap (λ j. 1 + span p (commented c (get_or bs i 0)) (drop j bs)) (sym (add-one i))

comment_of_next : (c : Bool) (bs : List ℕ) (i : ℕ) → i < length bs → comment_after c (take (suc i) bs) ≡ commented (comment_after c (take i bs)) (get_or bs i 0)
comment_of_next c [] i h = absurd (omega arith)
comment_of_next c (b ∷ bs) zero h = refl
comment_of_next c (b ∷ bs) (suc i) h = comment_of_next (commented c b) bs i (omega arith)

pub comment_of_one_more : (c : Bool) (bs : List ℕ) (i : ℕ) → i < length bs → comment_after c (take (i + 1) bs) ≡ commented (comment_after c (take i bs)) (get_or bs i 0)
comment_of_one_more c bs i h = ap (λ j. comment_after c (take j bs)) (add-one i) ∙ comment_of_next c bs i h

-- ---- the bytes through the first end mark

-- no comment is open before the mark, and no other stands before it
pub record IsFirstMark (c : Bool) (bs : List ℕ) (m : ℕ) : Type 0 where
  pub closed : comment_after c (take m bs) ≡ false
  pub first : span Inside c (take (m + 1) bs) ≡ m

closed_at : (c : Bool) (b : ℕ) → passes Inside c b ≡ false → c ≡ false
closed_at true b h = absurd (cc)
closed_at false b h = refl

mark_at : (c : Bool) (b : ℕ) (bs : List ℕ) (t : Bool) → passes Inside c b ≡ t → 0 ≡ span Inside c (b ∷ bs) → IsFirstMark c (b ∷ bs) 0
mark_at c b bs true e h = absurd (omega (arith, h, span_more Inside c b bs e))
mark_at c b bs false e h = record { closed = closed_at c b e; first = span_stops Inside c b [] e }

mark_after : (c : Bool) (b : ℕ) (bs : List ℕ) (m : ℕ) (t : Bool) → passes Inside c b ≡ t → suc m ≡ span Inside c (b ∷ bs) → (m ≡ span Inside (commented c b) bs → IsFirstMark (commented c b) bs m) → IsFirstMark c (b ∷ bs) (suc m)
mark_after c b bs m true e h next =
    let later = next (omega (arith, h, span_more Inside c b bs e)) in
    let same : suc m + 1 ≡ suc (m + 1) = omega arith in
    record {
      closed = later.closed;
      first = ap (λ n. span Inside c (take n (b ∷ bs))) same ∙ span_more Inside c b (take (m + 1) bs) e ∙ omega (arith, later.first);
    }
mark_after c b bs m false e h next = absurd (omega (arith, h, span_stops Inside c b bs e))

pub first_mark : (c : Bool) (bs : List ℕ) (m : ℕ) → m ≡ span Inside c bs → m < length bs → IsFirstMark c bs m
first_mark c [] m e h = absurd (omega arith)
first_mark c (b ∷ bs) zero e h = mark_at c b bs (passes Inside c b) refl e
first_mark c (b ∷ bs) (suc m) e h = mark_after c b bs m (passes Inside c b) refl e (λ k. first_mark (commented c b) bs m k (omega arith))
