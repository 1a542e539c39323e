-- The rows after a step hold exactly where the name can be put to a value at which those before it hold.
use Rattle.std.proofs.Common.{◌≡◌, ℕ, ◌<◌, List, [], ◌∷◌, sym, ap, ◌∙◌, subst, arith, nat_eq, unsigned_abs}
use Rattle.std.proofs.Math.IntN.{ℤ, pos, neg_ℤ, ◌+ℤ◌, ◌*ℤ◌}
use Rattle.std.specs.Prelude.{◌<ℤ◌}
use Rattle.std.proofs.lemmas.Int.{ints}
use Rattle.exact_numbers.specs.Frac.{Frac}
use Rattle.exact_numbers.proofs.Ring.{mul_one, mul_neg, mul_comm}
use Rattle.logic_meaning.specs.Point.{Point, move}
use Rattle.logic_meaning.specs.Some.{Among, EachOf}
use Rattle.logic_meaning.specs.Form.{coefficient, value, without}
use Rattle.formula_laws.proofs.Values.{value_move}
use Rattle.elimination_theory.proofs.FieldsLine.{value_still}
use Rattle.elimination_theory.proofs.SomeListed.{each_among}
use Rattle.sample_reference.proofs.SamePoints.{abs_positive, abs_above}
use Rattle.logic_meaning.specs.Rows.{Row, uppers, lowers, Pair, pairs, without_name}
use Rattle.linear_theory.specs.RowsHold.{Holds, RowsHold, rows_after}
use Rattle.logic_meaning.specs.Bounds.{least, greatest}
use Rattle.linear_theory.specs.Theorems.{StepIsExact}
use Rattle.linear_theory.proofs.Signs.{holds_mul, holds_join}
use Rattle.linear_theory.proofs.Ends.{greatest_proper, least_proper, some_between}
use Rattle.linear_theory.proofs.NewRow.{new_row_is}
use Rattle.linear_theory.proofs.Lists.{each_from, upper_row, lower_row, absent_row, pair_is, by_origin}
use Rattle.linear_theory.proofs.Fits.{AreEnds, ends_proper, TrueWith, all_true}

-- ---- there is a value

upper_zero : (a t : ℤ) → a *ℤ (neg_ℤ t *ℤ pos 1) +ℤ t *ℤ a ≡ pos 0
upper_zero a t = let m = ap (λ z. a *ℤ z) (mul_one (neg_ℤ t)) in let n = mul_neg a t in let c = mul_comm a t in omega (arith, ints)

lower_zero : (a t : ℤ) → a *ℤ (t *ℤ pos 1) +ℤ t *ℤ neg_ℤ a ≡ pos 0
lower_zero a t = let m = ap (λ z. a *ℤ z) (mul_one t) in let n = mul_neg t a in let c = mul_comm a t in omega (arith, ints)

module _ (x : ℕ) (p : Point ℕ) where
  upper_ends : (rows : List Row) → EachOf (λ (r : Row). pos 0 <ℤ coefficient x r.form) rows → (es : List Frac) × AreEnds x p (pos 1) rows es
  upper_ends [] h = ([], tt)
  upper_ends (r ∷ rows) h =
      let i = upper_ends rows h.1 in
      (record { numerator = neg_ℤ (value (without x r.form) p); denominator = coefficient x r.form } ∷ i.0, (record { proper = h.0; zero = upper_zero (coefficient x r.form) (value (without x r.form) p) }, i.1))

  lower_ends : (rows : List Row) → EachOf (λ (r : Row). pos 0 <ℤ neg_ℤ (coefficient x r.form)) rows → (es : List Frac) × AreEnds x p (pos 1) rows es
  lower_ends [] h = ([], tt)
  lower_ends (r ∷ rows) h =
      let i = lower_ends rows h.1 in
      (record { numerator = value (without x r.form) p; denominator = neg_ℤ (coefficient x r.form) } ∷ i.0, (record { proper = h.0; zero = lower_zero (coefficient x r.form) (value (without x r.form) p) }, i.1))

  module _ (rows : List Row) where
    value_there : RowsHold p (rows_after x rows) → (k : ℤ) × (m : ℕ) × 0 < m × RowsHold (move nat_eq p x k m) rows
    value_there after =
        let high = upper_ends (uppers x rows) (each_from _ (uppers x rows) (λ r m. (upper_row x rows r m).1)) in
        let low = lower_ends (lowers x rows) (each_from _ (lowers x rows) (λ r m. (lower_row x rows r m).1)) in
        let ph = ends_proper x p (pos 1) (uppers x rows) high.0 high.1 in
        let pl = ends_proper x p (pos 1) (lowers x rows) low.0 low.1 in
        let b = some_between (greatest low.0) (least high.0) (greatest_proper low.0 pl) (least_proper high.0 ph) in
        let v = b.0 in
        let one : pos 0 <ℤ pos 1 = omega (arith, ints) in
        let each = all_true x p (pos 1) one rows after low.0 high.0 low.1 high.1 v b.1 b.2 in (
          v.numerator,
          unsigned_abs v.denominator,
          abs_above v.denominator b.1,
          each_from (λ (r : Row). Holds r.strict (value r.form (move nat_eq p x v.numerator (unsigned_abs v.denominator)))) rows (λ r m. moved r v b.1 (each r m)),
        )
      where
        moved : (r : Row) (v : Frac) → pos 0 <ℤ v.denominator → TrueWith x p (pos 1) v r → Holds r.strict (value r.form (move nat_eq p x v.numerator (unsigned_abs v.denominator)))
        moved r v pv h =
            subst (Holds r.strict)
            (ap (λ z. coefficient x r.form *ℤ z +ℤ value (without x r.form) p *ℤ v.denominator) (mul_one v.numerator)
            ∙ ap (λ z. coefficient x r.form *ℤ v.numerator +ℤ value (without x r.form) p *ℤ z) (sym (abs_positive v.denominator pv))
            ∙ sym (value_move r.form p x v.numerator (unsigned_abs v.denominator)))
            h

    -- ---- and the new rows follow

    module _ (k : ℤ) (m : ℕ) (pm : pos 0 <ℤ pos m) (before : RowsHold (move nat_eq p x k m) rows) where
      stays : (r : Row) → coefficient x r.form ≡ pos 0 → Holds r.strict (value r.form (move nat_eq p x k m)) → Holds r.strict (value r.form p)
      stays r e h = (holds_mul r.strict (pos m) (value r.form p) pm).1 (subst (Holds r.strict) (value_still r.form p x k m e) h)

      holds_there : (r : Row) → Among rows r → Holds r.strict (value r.form (move nat_eq p x k m))
      holds_there r n = each_among (λ (r : Row). Holds r.strict (value r.form (move nat_eq p x k m))) rows r before n

      new_follows : (pair : Pair) → Among (pairs x rows) pair → Holds (without_name x pair).strict (value (without_name x pair).form p)
      new_follows pair n =
          let i = pair_is x rows pair n in
          let q = move nat_eq p x k m in
          let new = new_row_is x pair i.above_positive i.below_positive in
          stays (without_name x pair) new.name_gone
          (subst (λ b. Holds b (value (without_name x pair).form q)) (sym new.strict)
          (holds_join pair.upper.strict pair.lower.strict new.first (value pair.upper.form q) new.second (value pair.lower.form q) new.times _ new.first_positive new.second_positive new.times_positive (new.values q)
          (holds_there pair.upper i.upper) (holds_there pair.lower i.lower)))

      after_holds : RowsHold p (rows_after x rows)
      after_holds =
          each_from (λ (r : Row). Holds r.strict (value r.form p)) (rows_after x rows) (λ r n.
          by_origin x rows r n
          (λ old. let i = absent_row x rows r old in stays r i.1 (holds_there r i.0))
          (λ pair new same. subst (λ (z : Row). Holds z.strict (value z.form p)) same (new_follows pair new)))

pub step_exact : StepIsExact
step_exact x rows p o = (value_there x p rows, λ found. let h : pos 0 <ℤ pos found.1 = omega (arith, ints) in after_holds x p rows found.0 found.1 h found.3)
