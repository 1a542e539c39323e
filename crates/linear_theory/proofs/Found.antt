-- The bounds that the fraction rule gives are those of the rows, and the value between them makes all rows true.
use Rattle.std.proofs.Common.{◌≡◌, ℕ, Bool, true, false, List, [], ◌∷◌, Some, refl, sym, ap, ◌∙◌, subst, arith, nat_eq, if◌then◌else◌}
use Rattle.std.proofs.Math.IntN.{ℤ, pos, neg_ℤ, ◌+ℤ◌, ◌*ℤ◌}
use Rattle.std.specs.Prelude.{◌<ℤ◌, ◌≤ℤ◌}
use Rattle.std.proofs.lemmas.Int.{ints}
use Rattle.exact_numbers.specs.Frac.{Frac, IsProper, IsLowest, whole_frac, inverted, sum_step, product_step, ◌>>=◌}
use Rattle.exact_numbers.proofs.Ring.{ring, zero_mul, mul_zero, mul_one, one_mul}
use Rattle.exact_numbers.proofs.Order.{mul_positive, cancel_positive, by_less}
use Rattle.exact_numbers.proofs.FractionRule.{inverted_negative, inverted_other, inverted_one}
use Rattle.logic_meaning.specs.Context.{Fields}
use Rattle.logic_meaning.specs.Point.{Point, Of}
use Rattle.logic_meaning.specs.Form.{Form, Term, coefficient, total, value, without}
use Rattle.logic_meaning.specs.Some.{Among, EachOf}
use Rattle.formula_laws.proofs.Values.{value_split}
use Rattle.elimination_theory.proofs.SomeListed.{each_among}
use Rattle.logic_meaning.specs.Values.{Value, value_names, IsValue}
use Rattle.sample_reference.proofs.FieldsValue.{sum_is, product_is}
use Rattle.sample_reference.proofs.SamePoints.{some_same, some_then}
use Rattle.logic_meaning.specs.Rows.{Row, uppers, lowers}
use Rattle.linear_theory.specs.RowsHold.{Holds, RowsHold, rows_after}
use Rattle.logic_meaning.specs.Bounds.{value_among, terms_at, bound_of, bounds_of, least, greatest, between, found_value}
use Rattle.linear_theory.proofs.Signs.{holds_mul}
use Rattle.linear_theory.proofs.Ends.{greatest_proper, least_proper, between_is}
use Rattle.linear_theory.proofs.Lists.{each_from, upper_row, lower_row}
use Rattle.linear_theory.proofs.Fits.{IsEnd, AreEnds, ends_proper, all_true}
use Rattle.linear_theory.proofs.Over.{IsOver, AreRowsOver, over_terms, others_over}

-- ---- fractions of a point

-- a is z over D
abbrev pub IsFraction : ℤ → Frac → ℤ → Type 0
IsFraction D a z = a.numerator *ℤ D ≡ z *ℤ a.denominator

sum_stands : (D sn sd pn pd nn nd y z : ℤ) → pos 0 <ℤ sd → pos 0 <ℤ pd → sn *ℤ D ≡ y *ℤ sd → pn *ℤ D ≡ z *ℤ pd → nn *ℤ (sd *ℤ pd) ≡ (sn *ℤ pd +ℤ pn *ℤ sd) *ℤ nd → nn *ℤ D ≡ (y +ℤ z) *ℤ nd
sum_stands D sn sd pn pd nn nd y z hs hp e f g =
    let i = simp ring at (ap (λ w. (pd *ℤ nd) *ℤ w) e) in
    let j = simp ring at (ap (λ w. (sd *ℤ nd) *ℤ w) f) in
    let k = simp ring at (ap (λ w. D *ℤ w) g) in
    let both : (sd *ℤ pd) *ℤ (nn *ℤ D) ≡ (sd *ℤ pd) *ℤ ((y +ℤ z) *ℤ nd) = simp ring (omega (arith, ints, i, j, k)) in
    cancel_positive (sd *ℤ pd) (mul_positive hs hp) both

product_stands : (D t vn vd pn pd z : ℤ) → pos 0 <ℤ vd → vn *ℤ D ≡ z *ℤ vd → pn *ℤ (pos 1 *ℤ vd) ≡ (t *ℤ vn) *ℤ pd → pn *ℤ D ≡ (t *ℤ z) *ℤ pd
product_stands D t vn vd pn pd z h e f =
    let g : pn *ℤ vd ≡ (t *ℤ vn) *ℤ pd = ap (λ w. pn *ℤ w) (sym (one_mul vd)) ∙ f in
    let i = simp ring at (ap (λ w. (t *ℤ pd) *ℤ w) e) in
    let k = simp ring at (ap (λ w. D *ℤ w) g) in
    let both : vd *ℤ (pn *ℤ D) ≡ vd *ℤ ((t *ℤ z) *ℤ pd) = simp ring (omega (arith, ints, i, k)) in
    cancel_positive vd h both

-- the bound: minus the rest, divided by a
bound_zero : (D a sn sd un ud bn bd R : ℤ) → pos 0 <ℤ sd → pos 0 <ℤ ud → sn *ℤ D ≡ R *ℤ sd → un *ℤ neg_ℤ a ≡ ud → bn *ℤ (sd *ℤ ud) ≡ (sn *ℤ un) *ℤ bd → a *ℤ (bn *ℤ D) +ℤ R *ℤ bd ≡ pos 0
bound_zero D a sn sd un ud bn bd R hs hu e f g =
    let i = simp ring at (ap (λ w. (a *ℤ (un *ℤ bd)) *ℤ w) e) in
    let j = simp ring at (ap (λ w. (R *ℤ (bd *ℤ sd)) *ℤ w) f) in
    let k = simp ring at (ap (λ w. (a *ℤ D) *ℤ w) g) in
    let z = mul_zero (sd *ℤ ud) in
    let both : (sd *ℤ ud) *ℤ (a *ℤ (bn *ℤ D) +ℤ R *ℤ bd) ≡ pos 0 = simp ring (omega (arith, ints, i, j, k)) in
    cancel_positive (sd *ℤ ud) (mul_positive hs hu) (both ∙ sym z)

-- 1 over a number other than 0
record IsInverse (n : ℤ) (u : Frac) : Type 0 where
  proper : IsProper u
  times : u.numerator *ℤ n ≡ u.denominator

inverse_of : (n : ℤ) → ¬ (n ≡ pos 0) → IsInverse n (inverted (whole_frac n))
inverse_of n z = record {
  proper = by_less n (pos 0)
      (λ l. let e = ap (λ (u : Frac). u.denominator) (inverted_negative (whole_frac n) l) in subst (λ d. pos 0 <ℤ d) (sym e) (omega (arith, ints)))
      (λ h. let e = ap (λ (u : Frac). u.denominator) (inverted_other (whole_frac n) h) in subst (λ d. pos 0 <ℤ d) (sym e) (by_less (pos 0) n (λ l. l) (λ (k : n ≤ℤ pos 0). absurd (z (omega (arith, ints))))));
  times =
      sym (mul_one ((inverted (whole_frac n)).numerator *ℤ n)) ∙ inverted_one (whole_frac n) ∙ one_mul ((inverted (whole_frac n)).denominator *ℤ pos 1) ∙ mul_one (inverted (whole_frac n)).denominator;
}

-- ---- a row's bound

module _ (x : ℕ) (vs : List Value) (q : Point ℕ) (each : EachOf (IsValue Fields) vs) (there : (y : ℕ) → Among (value_names vs) y → IsFraction (pos q.below) (value_among vs y) (q.at y)) where
  value_proper : (vs : List Value) → EachOf (IsValue Fields) vs → (y : ℕ) → IsProper (value_among vs y)
  value_proper [] h y = omega (arith, ints)
  value_proper (v ∷ vs) h y = go (nat_eq v.name y) (value_proper vs h.1 y)
    where
      go : (b : Bool) → IsProper (value_among vs y) → IsProper (if b then v.at else value_among vs y)
      go true i = h.0.proper
      go false i = i

  -- a fraction of the point
  record IsSum (a : Frac) (z : ℤ) : Type 0 where
    proper : IsProper a
    stands : IsFraction (pos q.below) a z

  sum_next : (a b s : Frac) (y z : ℤ) → IsSum a y → IsSum b z → sum_step a b ≡ Some s → IsSum s (y +ℤ z)
  sum_next a b s y z i j e =
      let is = sum_is a b s i.proper j.proper e in
      record { proper = is.proper; stands = sum_stands (pos q.below) a.numerator a.denominator b.numerator b.denominator s.numerator s.denominator y z i.proper j.proper i.stands j.stands is.value }

  term_is : (t : Term) (a : Frac) → Among (value_names vs) t.name → product_step (whole_frac t.times) (value_among vs t.name) ≡ Some a → IsSum a (t.times *ℤ q.at t.name)
  term_is t a m e =
      let v = value_among vs t.name in
      let pv = value_proper vs each t.name in
      let is = product_is (whole_frac t.times) v a (omega (arith, ints)) pv e in
      record { proper = is.proper; stands = product_stands (pos q.below) t.times v.numerator v.denominator a.numerator a.denominator (q.at t.name) pv (there t.name m) is.value }

  added : (y a t : ℤ) → (y +ℤ a) +ℤ t ≡ y +ℤ (a +ℤ t)
  added y a t = omega (arith, ints)

  terms_sum : (ts : List Term) (a s : Frac) (z : ℤ) → IsSum a z → EachOf (λ (t : Term). Among (value_names vs) t.name) ts → terms_at vs a ts ≡ Some s → IsSum s (z +ℤ total ts q.at)
  unfolding terms_at
  terms_sum [] a s z i h e = subst (λ (b : Frac). IsSum b (z +ℤ pos 0)) (some_same a s e) (subst (IsSum a) (omega (arith, ints)) i)
  terms_sum (t ∷ ts) a s z i h e =
      some_then (product_step (whole_frac t.times) (value_among vs t.name)) (λ p. _) s e (λ p f g.
      some_then (sum_step a p) (λ n. terms_at vs n ts) s g (λ n k l.
      subst (IsSum s) (added z (t.times *ℤ q.at t.name) (total ts q.at))
      (terms_sum ts n s (z +ℤ t.times *ℤ q.at t.name) (sum_next a p n z (t.times *ℤ q.at t.name) i (term_is t p h.0 f) k) h.1 l)))

  whole_sum : (n : ℤ) → IsSum (whole_frac n) (n *ℤ pos q.below)
  whole_sum n = record { proper = omega (arith, ints); stands = sym (mul_one (n *ℤ pos q.below)) }

  zero_sum : IsSum (whole_frac (pos 0)) (pos 0)
  zero_sum = subst (IsSum (whole_frac (pos 0))) (zero_mul (pos q.below)) (whole_sum (pos 0))

  value_is_total : (f : Form) (z : ℤ) → z ≡ (pos 0 +ℤ total (without x f).terms q.at) +ℤ f.constant *ℤ pos q.below → z ≡ value (without x f) q
  unfolding value without
  value_is_total f z e = omega (arith, ints)

  -- the bound of a row is that of the point
  row_end : (r : Row) (b : Frac) → ¬ (coefficient x r.form ≡ pos 0) → IsOver (x ∷ value_names vs) r.form → bound_of x vs r.form ≡ Some b → IsEnd x q (pos q.below) r b
  unfolding bound_of
  row_end r b n o e =
      let f = r.form in
      let a = coefficient x f in
      some_then (terms_at vs (whole_frac (pos 0)) (without x f).terms) (λ t. _) b e (λ t g h.
      some_then (sum_step t (whole_frac f.constant)) (λ s. _) b h (λ s k l.
      let first = terms_sum (without x f).terms (whole_frac (pos 0)) t (pos 0) zero_sum (over_terms (value_names vs) (without x f) (others_over x (value_names vs) f o)) g in
      let sum = sum_next t (whole_frac f.constant) s (pos 0 +ℤ total (without x f).terms q.at) (f.constant *ℤ pos q.below) first (whole_sum f.constant) k in
      let inverse = inverse_of (neg_ℤ a) (λ (z : neg_ℤ a ≡ pos 0). n (omega (arith, ints))) in
      let u = inverted (whole_frac (neg_ℤ a)) in
      let is = product_is s u b sum.proper inverse.proper l in
      record {
        proper = is.proper;
        zero = subst (λ R. a *ℤ (b.numerator *ℤ pos q.below) +ℤ R *ℤ b.denominator ≡ pos 0) (value_is_total f ((pos 0 +ℤ total (without x f).terms q.at) +ℤ f.constant *ℤ pos q.below) refl)
            (bound_zero (pos q.below) a s.numerator s.denominator u.numerator u.denominator b.numerator b.denominator _ sum.proper inverse.proper sum.stands inverse.times is.value);
      }))

  row_ends : (rows : List Row) (bs : List Frac) → EachOf (λ (r : Row). ¬ (coefficient x r.form ≡ pos 0) × IsOver (x ∷ value_names vs) r.form) rows → bounds_of x vs rows ≡ Some bs → AreEnds x q (pos q.below) rows bs
  row_ends [] bs h e = subst (AreEnds x q (pos q.below) []) (some_same [] bs e) tt
  row_ends (r ∷ rows) bs h e =
      some_then (bound_of x vs r.form) (λ b. bounds_of x vs rows >>= λ cs. Some (b ∷ cs)) bs e (λ b f g.
      some_then (bounds_of x vs rows) (λ cs. Some (b ∷ cs)) bs g (λ cs k l.
      subst (AreEnds x q (pos q.below) (r ∷ rows)) (some_same (b ∷ cs) bs l) (row_end r b h.0.0 h.0.1 f, row_ends rows cs h.1 k)))

  -- ---- the value

  positive_other : (a : ℤ) → pos 0 <ℤ a → ¬ (a ≡ pos 0)
  positive_other a h e = absurd (omega (arith, ints))

  negative_other : (a : ℤ) → pos 0 <ℤ neg_ℤ a → ¬ (a ≡ pos 0)
  negative_other a h e = absurd (omega (arith, ints))

  there_too : (a X v d n t : ℤ) → X *ℤ d ≡ n → v ≡ a *ℤ X +ℤ t → a *ℤ n +ℤ t *ℤ d ≡ d *ℤ v
  there_too a X v d n t e f =
      let i = ap (λ z. a *ℤ z) e in
      let j = simp ring at (ap (λ z. d *ℤ z) f) in
      simp ring (omega (arith, ints, i, j))

  module _ (rows : List Row) (over : AreRowsOver (x ∷ value_names vs) rows) (o : Of Fields q) (after : RowsHold q (rows_after x rows)) where
    row_known : (r : Row) → Among rows r → IsOver (x ∷ value_names vs) r.form
    row_known r m = each_among (λ (r : Row). IsOver (x ∷ value_names vs) r.form) rows r over m

    -- what is known of the value found, and of the rows where x has it
    pub record IsFound (a : Frac) : Type 0 where
      pub proper : IsProper a
      pub lowest_terms : IsLowest a
      pub holds : IsFraction (pos q.below) a (q.at x) → RowsHold q rows

    found_between : (a : Frac) (low high : List Frac) → bounds_of x vs (lowers x rows) ≡ Some low → bounds_of x vs (uppers x rows) ≡ Some high → between (greatest low) (least high) ≡ Some a → IsFound a
    found_between a low high e f g =
        let D = pos q.below in
        let pD : pos 0 <ℤ D = omega (arith, ints) in
        let ends_low = row_ends (lowers x rows) low (each_from _ (lowers x rows) (λ r m. let i = lower_row x rows r m in (negative_other (coefficient x r.form) i.1, row_known r i.0))) e in
        let ends_high = row_ends (uppers x rows) high (each_from _ (uppers x rows) (λ r m. let i = upper_row x rows r m in (positive_other (coefficient x r.form) i.1, row_known r i.0))) f in
        let is = between_is (greatest low) (least high) a (greatest_proper low (ends_proper x q D (lowers x rows) low ends_low)) (least_proper high (ends_proper x q D (uppers x rows) high ends_high)) g in
        record {
          proper = is.proper;
          lowest_terms = is.lowest_terms;
          holds = λ stands.
              each_from (λ (r : Row). Holds r.strict (value r.form q)) rows (λ r m.
              (holds_mul r.strict a.denominator (value r.form q) is.proper).1
              (subst (Holds r.strict) (there_too (coefficient x r.form) (q.at x) (value r.form q) a.denominator (a.numerator *ℤ D) (value (without x r.form) q) (sym stands) (value_split r.form q x))
              (all_true x q D pD rows after low high ends_low ends_high a is.proper is.is_between r m)));
        }

    pub found_is : (a : Frac) → found_value x rows vs ≡ Some a → IsFound a
    found_is a e =
        some_then (bounds_of x vs (lowers x rows)) (λ low. bounds_of x vs (uppers x rows) >>= λ high. between (greatest low) (least high)) a e (λ low f g.
        some_then (bounds_of x vs (uppers x rows)) (λ high. between (greatest low) (least high)) a g (λ high k l.
        found_between a low high f k l))
