-- A number between the bounds of a name makes the rows true that have it, where the new rows are true.
use Rattle.std.proofs.Common.{◌≡◌, ℕ, ◌||◌, List, [], ◌∷◌, inl, inr, refl, sym, ap, ◌∙◌, subst, arith}
use Rattle.std.proofs.Math.IntN.{ℤ, pos, neg_ℤ, ◌+ℤ◌, ◌*ℤ◌}
use Rattle.std.specs.Prelude.{◌<ℤ◌}
use Rattle.std.proofs.lemmas.Int.{ints}
use Rattle.exact_numbers.specs.Frac.{Frac, IsProper}
use Rattle.exact_numbers.proofs.Ring.{ring, zero_mul, mul_zero, one_mul, mul_comm, mul_assoc}
use Rattle.exact_numbers.proofs.Order.{mul_positive}
use Rattle.logic_meaning.specs.Point.{Point}
use Rattle.logic_meaning.specs.Some.{Among, EachOf}
use Rattle.logic_meaning.specs.Form.{coefficient, value, without}
use Rattle.formula_laws.proofs.Values.{value_split}
use Rattle.elimination_theory.proofs.SomeListed.{each_among}
use Rattle.logic_meaning.specs.Rows.{Row, absent, uppers, lowers, Pair, without_name}
use Rattle.linear_theory.specs.RowsHold.{Holds, RowsHold, rows_after}
use Rattle.logic_meaning.specs.Bounds.{least, greatest}
use Rattle.linear_theory.proofs.Signs.{holds_left, holds_right, holds_times}
use Rattle.linear_theory.proofs.Ends.{Before, IsBetween, fits_above, fits_below}
use Rattle.linear_theory.proofs.NewRow.{new_row_is}
use Rattle.linear_theory.proofs.Lists.{upper_row, lower_row, by_kind, among_pairs, pair_is, absent_after, pair_after}

-- ---- arithmetic

-- the name's own part cancels in the sum
without_own : (u l a c t s x vp vn T : ℤ) → u *ℤ a +ℤ l *ℤ c ≡ pos 0 → vp ≡ a *ℤ x +ℤ t → vn ≡ c *ℤ x +ℤ s → T ≡ u *ℤ vp +ℤ l *ℤ vn → T ≡ u *ℤ t +ℤ l *ℤ s
without_own u l a c t s x vp vn T e f g h =
    let k = simp ring at (ap (λ z. z *ℤ x) e ∙ zero_mul x) in
    let i = simp ring at (ap (λ z. u *ℤ z) f) in
    let j = simp ring at (ap (λ z. l *ℤ z) g) in
    omega (arith, ints, h, i, j, k)

-- the lower bound against the upper one
pair_order : (u l a c D nn nd pn pd t s T : ℤ) → u *ℤ a +ℤ l *ℤ c ≡ pos 0 → a *ℤ (pn *ℤ D) +ℤ t *ℤ pd ≡ pos 0 → c *ℤ (nn *ℤ D) +ℤ s *ℤ nd ≡ pos 0 → T ≡ u *ℤ t +ℤ l *ℤ s →
    (u *ℤ (a *ℤ D)) *ℤ (nn *ℤ pd +ℤ neg_ℤ (pn *ℤ nd)) ≡ (nd *ℤ pd) *ℤ T
pair_order u l a c D nn nd pn pd t s T e f g h =
    let i = simp ring at (ap (λ z. z *ℤ (D *ℤ (nn *ℤ pd))) e ∙ zero_mul (D *ℤ (nn *ℤ pd))) in
    let j = simp ring at (ap (λ z. z *ℤ (u *ℤ nd)) f ∙ zero_mul (u *ℤ nd)) in
    let k = simp ring at (ap (λ z. z *ℤ (l *ℤ pd)) g ∙ zero_mul (l *ℤ pd)) in
    let m = simp ring at (ap (λ z. (nd *ℤ pd) *ℤ z) h) in
    simp ring (omega (arith, ints, i, j, k, m))

-- a row that bounds above, from its bound
upper_fits : (a D n d vn vd t : ℤ) → a *ℤ (n *ℤ D) +ℤ t *ℤ d ≡ pos 0 → d *ℤ (a *ℤ (vn *ℤ D) +ℤ t *ℤ vd) ≡ (a *ℤ D) *ℤ (vn *ℤ d +ℤ neg_ℤ (n *ℤ vd))
upper_fits a D n d vn vd t e =
    let i = simp ring at (ap (λ z. z *ℤ vd) e ∙ zero_mul vd) in
    simp ring (omega (arith, ints, i))

lower_fits : (c D n d vn vd t : ℤ) → c *ℤ (n *ℤ D) +ℤ t *ℤ d ≡ pos 0 → d *ℤ (c *ℤ (vn *ℤ D) +ℤ t *ℤ vd) ≡ (neg_ℤ c *ℤ D) *ℤ (n *ℤ vd +ℤ neg_ℤ (vn *ℤ d))
lower_fits c D n d vn vd t e =
    let i = simp ring at (ap (λ z. z *ℤ vd) e ∙ zero_mul vd) in
    simp ring (omega (arith, ints, i))

-- a row without the name
nothing_there : (a n t d x v : ℤ) → a ≡ pos 0 → v ≡ a *ℤ x +ℤ t → pos 1 *ℤ (a *ℤ n +ℤ t *ℤ d) ≡ d *ℤ v
nothing_there a n t d x v e f =
    let g = ap (λ z. z *ℤ n) e ∙ zero_mul n in
    let h = ap (λ z. z *ℤ x) e ∙ zero_mul x in
    let k : v ≡ t = omega (arith, ints) in
    one_mul (a *ℤ n +ℤ t *ℤ d) ∙ ap (λ z. z +ℤ t *ℤ d) g ∙ omega (arith, ints, mul_comm t d, ap (λ z. d *ℤ z) k)

-- ---- the bounds of rows

-- D: the unit of the fractions
module _ (x : ℕ) (p : Point ℕ) (D : ℤ) where
  abbrev pub rest : Row → ℤ
  rest r = value (without x r.form) p

  -- the row is 0 where x is e
  pub record IsEnd (r : Row) (e : Frac) : Type 0 where
    pub proper : IsProper e
    pub zero : coefficient x r.form *ℤ (e.numerator *ℤ D) +ℤ rest r *ℤ e.denominator ≡ pos 0

  -- one for each row
  abbrev pub AreEnds : List Row → List Frac → Type 0
  AreEnds [] [] = Unit {0}
  AreEnds [] (e ∷ es) = ⊥
  AreEnds (r ∷ rows) [] = ⊥
  AreEnds (r ∷ rows) (e ∷ es) = IsEnd r e × AreEnds rows es

  end_of : (rows : List Row) (es : List Frac) (r : Row) → AreEnds rows es → Among rows r → (e : Frac) × Among es e × IsEnd r e
  end_of [] es r a m = absurd m
  end_of (q ∷ rows) [] r a m = absurd a
  end_of (q ∷ rows) (e ∷ es) r a (inl i) = (e, inl refl, subst (λ (z : Row). IsEnd z e) i a.0)
  end_of (q ∷ rows) (e ∷ es) r a (inr m) = let i = end_of rows es r a.1 m in (i.0, inr i.1, i.2)

  row_of_end : (rows : List Row) (es : List Frac) (e : Frac) → AreEnds rows es → Among es e → (r : Row) × Among rows r × IsEnd r e
  row_of_end [] [] e a m = absurd m
  row_of_end [] (f ∷ es) e a m = absurd a
  row_of_end (q ∷ rows) [] e a m = absurd m
  row_of_end (q ∷ rows) (f ∷ es) e a (inl i) = (q, inl refl, subst (IsEnd q) i a.0)
  row_of_end (q ∷ rows) (f ∷ es) e a (inr m) = let i = row_of_end rows es e a.1 m in (i.0, inr i.1, i.2)

  pub ends_proper : (rows : List Row) (es : List Frac) → AreEnds rows es → EachOf IsProper es
  ends_proper [] [] a = tt
  ends_proper [] (e ∷ es) a = absurd a
  ends_proper (r ∷ rows) [] a = absurd a
  ends_proper (r ∷ rows) (e ∷ es) a = (a.0.proper, ends_proper rows es a.1)

  -- the row is true where x is v
  abbrev pub TrueWith : Frac → Row → Type 0
  TrueWith v r = Holds r.strict (coefficient x r.form *ℤ (v.numerator *ℤ D) +ℤ rest r *ℤ v.denominator)

  module _ (pD : pos 0 <ℤ D) (rows : List Row) (after : RowsHold p (rows_after x rows)) where
    -- the new row of two rows puts their bounds in order
    in_order : (r q : Row) (e f : Frac) → Among (uppers x rows) r → Among (lowers x rows) q → IsEnd r e → IsEnd q f → Before (r.strict || q.strict) f e
    in_order r q e f mr mq first second =
        let pair : Pair = record { upper = r; lower = q } in
        let m = among_pairs x rows r q mr mq in
        let i = pair_is x rows pair m in
        let new = without_name x pair in
        let n = new_row_is x pair i.above_positive i.below_positive in
        let h : Holds (r.strict || q.strict) (value new.form p) = subst (λ b. Holds b (value new.form p)) n.strict (each_among (λ (r : Row). Holds r.strict (value r.form p)) (rows_after x rows) new after (pair_after x rows pair m)) in
        let own : n.first *ℤ coefficient x r.form +ℤ n.second *ℤ coefficient x q.form ≡ pos 0 = sym (n.coefficients x) ∙ ap (λ z. n.times *ℤ z) n.name_gone ∙ mul_zero n.times in
        let sum = without_own n.first n.second (coefficient x r.form) (coefficient x q.form) (rest r) (rest q) (p.at x) (value r.form p) (value q.form p) (n.times *ℤ value new.form p)
        own (value_split r.form p x) (value_split q.form p x) (n.values p) in
        let order = pair_order n.first n.second (coefficient x r.form) (coefficient x q.form) D f.numerator f.denominator e.numerator e.denominator (rest r) (rest q) (n.times *ℤ value new.form p)
        own first.zero second.zero sum in
        holds_times (r.strict || q.strict) ((f.denominator *ℤ e.denominator) *ℤ n.times) (value new.form p) (n.first *ℤ (coefficient x r.form *ℤ D)) _
        (mul_positive (mul_positive second.proper first.proper) n.times_positive) (mul_positive n.first_positive (mul_positive i.above_positive pD))
        (order ∙ sym (mul_assoc (f.denominator *ℤ e.denominator) n.times (value new.form p))) h

    module _ (lows highs : List Frac) (low : AreEnds (lowers x rows) lows) (high : AreEnds (uppers x rows) highs) (v : Frac) (pv : IsProper v) (b : IsBetween (greatest lows) (least highs) v) where
      above_true : (r : Row) → Among (uppers x rows) r → TrueWith v r
      above_true r m =
          let e = end_of (uppers x rows) highs r high m in
          let u = upper_row x rows r m in
          let h = fits_below lows highs (ends_proper (lowers x rows) lows low) (ends_proper (uppers x rows) highs high) v pv b r.strict e.0 e.2.proper e.1
          (λ l n. let f = row_of_end (lowers x rows) lows l low n in holds_left r.strict f.0.strict _ (in_order r f.0 e.0 l m f.1 e.2 f.2)) in
          holds_times r.strict (coefficient x r.form *ℤ D) _ e.0.denominator _ (mul_positive u.1 pD) e.2.proper
          (upper_fits (coefficient x r.form) D e.0.numerator e.0.denominator v.numerator v.denominator (rest r) e.2.zero) h

      below_true : (r : Row) → Among (lowers x rows) r → TrueWith v r
      below_true r m =
          let e = end_of (lowers x rows) lows r low m in
          let u = lower_row x rows r m in
          let h = fits_above lows highs (ends_proper (lowers x rows) lows low) (ends_proper (uppers x rows) highs high) v pv b r.strict e.0 e.2.proper e.1
          (λ l n. let f = row_of_end (uppers x rows) highs l high n in holds_right f.0.strict r.strict _ (in_order f.0 r l e.0 f.1 m f.2 e.2)) in
          holds_times r.strict (neg_ℤ (coefficient x r.form) *ℤ D) _ e.0.denominator _ (mul_positive u.1 pD) e.2.proper
          (lower_fits (coefficient x r.form) D e.0.numerator e.0.denominator v.numerator v.denominator (rest r) e.2.zero) h

      absent_true : (r : Row) → Among (absent x rows) r → coefficient x r.form ≡ pos 0 → TrueWith v r
      absent_true r m e =
          holds_times r.strict v.denominator (value r.form p) (pos 1) _ pv (omega (arith, ints))
          (nothing_there (coefficient x r.form) (v.numerator *ℤ D) (rest r) v.denominator (p.at x) (value r.form p) e (value_split r.form p x))
          (each_among (λ (r : Row). Holds r.strict (value r.form p)) (rows_after x rows) r after (absent_after x rows r m))

      -- each row is true with v
      pub all_true : (r : Row) → Among rows r → TrueWith v r
      all_true r m = by_kind x rows r m (absent_true r) (above_true r) (below_true r)
