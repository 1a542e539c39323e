-- Which names stand in the rows, and what a row without names says.
use Rattle.std.proofs.Common.{◌≡◌, ℕ, suc, Bool, true, false, ◌&&◌, ◌||◌, List, [], ◌∷◌, Some, None, inl, inr, ⊎_elim, ◌⊎◌, refl, sym, ap, ◌∙◌, subst, arith, nat_eq, if◌then◌else◌, eqb-true, eq-eqb}
use Rattle.std.proofs.Math.IntN.{ℤ, pos, negsuc, ◌+ℤ◌, ◌*ℤ◌}
use Rattle.std.specs.Prelude.{◌<ℤ◌, ◌≤ℤ◌, int_lt}
use Rattle.std.specs.Ordering.{int_eq}
use Rattle.std.specs.Cmp.{signed_Decides}
use Rattle.std.proofs.lemmas.Int.{ints}
use Rattle.exact_numbers.proofs.Ring.{mul_zero, mul_comm}
use Rattle.exact_numbers.proofs.Order.{by_zero, by_less, cancel_positive}
use Rattle.logic_meaning.specs.Context.{Fields}
use Rattle.logic_meaning.specs.Point.{Point, Of}
use Rattle.logic_meaning.specs.Form.{Form, Term, coefficient, multiple, total, value, without, scale}
use Rattle.logic_meaning.specs.Sorted.{IsRising, AllNonzero, IsSorted, gathered}
use Rattle.logic_meaning.specs.Some.{Among, EachOf}
use Rattle.formula_laws.proofs.Coefficients.{coefficient_scale, coefficient_combine, coefficient_without_same, coefficient_without_other}
use Rattle.formula_laws.proofs.Gathered.{coefficient_gathered, gathered_sorted}
use Rattle.formula_laws.proofs.Sorted.{here, elsewhere, scale_sorted, without_sorted}
use Rattle.elimination_theory.proofs.SomeListed.{each_append, each_among}
use Rattle.sample_reference.proofs.SamePoints.{some_same, none_some}
use Rattle.logic_meaning.specs.Constraints.{Bound, Equal, AtMost, Below, Constraint}
use Rattle.logic_meaning.specs.Farkas.{nothing, IsFarkas, sum_from}
use Rattle.logic_meaning.specs.Rows.{Row, bound_rows, rows_from, without_name}
use Rattle.linear_theory.specs.RowsHold.{Holds, RowsHold, rows_after}
use Rattle.logic_meaning.specs.Search.{is_false, first_false, multipliers_from}
use Rattle.linear_theory.specs.Theorems.{AreOver}
use Rattle.linear_theory.proofs.Signs.{holds_mul}
use Rattle.linear_theory.proofs.NewRow.{new_row_is, constant_combine}
use Rattle.linear_theory.proofs.Lists.{each_from, absent_row, pair_is, by_origin, less_told}
use Rattle.linear_theory.proofs.Derived.{IsDerived, constant_of, times_of, weighed, sum_weighed, some_true}

-- ---- names

-- the name is in the list, or it isn't
pub among_or : (names : List ℕ) (y : ℕ) → Among names y ⊎ ¬ (Among names y)
among_or [] y = inr (λ m. m)
among_or (x ∷ xs) y = go (nat_eq x y) refl (among_or xs y)
  where
    go : (b : Bool) → nat_eq x y ≡ b → Among xs y ⊎ ¬ (Among xs y) → Among (x ∷ xs) y ⊎ ¬ (Among (x ∷ xs) y)
    go true e o = inl (inl (eqb-true x y e))
    go false e (inl m) = inl (inr m)
    go false e (inr n) = inr (λ m. ⊎_elim (λ i. absurd cc (sym e ∙ eq-eqb x y i)) n m)

-- the form is sorted, and its names are among these
pub record IsOver (names : List ℕ) (f : Form) : Type 0 where
  pub sorted : IsSorted f
  pub names_among : (y : ℕ) → ¬ (Among names y) → coefficient y f ≡ pos 0

abbrev pub AreRowsOver : List ℕ → List Row → Type 0
AreRowsOver names rows = EachOf (λ (r : Row). IsOver names r.form) rows

-- the name of each term is one of these
terms_among : (names : List ℕ) (ts : List Term) → IsRising ts → AllNonzero ts → ((y : ℕ) → ¬ (Among names y) → multiple y ts ≡ pos 0) → EachOf (λ (t : Term). Among names t.name) ts
terms_among names [] rising nonzero z = tt
terms_among names (t ∷ ts) rising nonzero z =
    ⊎_elim
    (λ m. (m, terms_among names ts rising.1 nonzero.1 (λ y n. sym (elsewhere y t ts (λ e. n (subst (Among names) e m))) ∙ z y n)))
    (λ n. absurd (nonzero.0 (sym (here t.name t ts refl rising.0) ∙ z t.name n)))
    (among_or names t.name)

pub over_terms : (names : List ℕ) (f : Form) → IsOver names f → EachOf (λ (t : Term). Among names t.name) f.terms
unfolding coefficient
over_terms names f o = terms_among names f.terms o.sorted.rising o.sorted.nonzero o.names_among

-- ---- the rows of constraints

constraint_over : (names : List ℕ) (c : Constraint) → ((y : ℕ) → ¬ (coefficient y c.form ≡ pos 0) → Among names y) → IsOver names (gathered c.form)
constraint_over names c h = record {
  sorted = gathered_sorted c.form;
  names_among = λ y n. coefficient_gathered y c.form ∙ by_zero (coefficient y c.form) (λ z. z) (λ other. absurd (n (h y other)));
}

negated_over : (names : List ℕ) (f : Form) → IsOver names f → IsOver names (scale (negsuc 0) f)
negated_over names f o = record {
  sorted = scale_sorted (negsuc 0) f (λ (e : negsuc 0 ≡ pos 0). omega (arith, ints)) o.sorted;
  names_among = λ y n. coefficient_scale y (negsuc 0) f ∙ ap (λ z. negsuc 0 *ℤ z) (o.names_among y n);
}

bound_over : (names : List ℕ) (place : ℕ) (bound : Bound) (f : Form) → IsOver names f → AreRowsOver names (bound_rows place bound f)
bound_over names place Equal f o = (o, (negated_over names f o, tt))
bound_over names place AtMost f o = (o, tt)
bound_over names place Below f o = (o, tt)

pub rows_over : (names : List ℕ) (place : ℕ) (cs : List Constraint) → AreOver names cs → AreRowsOver names (rows_from place cs)
rows_over names place [] h = tt
rows_over names place (c ∷ cs) h =
    each_append (λ (r : Row). IsOver names r.form) (bound_rows place c.bound (gathered c.form)) (rows_from (suc place) cs)
    (bound_over names place c.bound (gathered c.form) (constraint_over names c h.0)) (rows_over names (suc place) cs h.1)

-- ---- a step takes the name away

-- a form without the name
without_it : (x : ℕ) (xs : List ℕ) (f : Form) → IsSorted f → coefficient x f ≡ pos 0 → ((y : ℕ) → ¬ (Among (x ∷ xs) y) → coefficient y f ≡ pos 0) → IsOver xs f
without_it x xs f s z h = record { sorted = s; names_among = λ y n. go y n (nat_eq x y) refl }
  where
    go : (y : ℕ) → ¬ (Among xs y) → (b : Bool) → nat_eq x y ≡ b → coefficient y f ≡ pos 0
    go y n true e = subst (λ (w : ℕ). coefficient w f ≡ pos 0) (eqb-true x y e) z
    go y n false e = h y (λ m. ⊎_elim (λ i. absurd cc (sym e ∙ eq-eqb x y i)) n m)

-- the other terms of a form
pub others_over : (x : ℕ) (xs : List ℕ) (f : Form) → IsOver (x ∷ xs) f → IsOver xs (without x f)
others_over x xs f o = without_it x xs (without x f) (without_sorted x f o.sorted) (coefficient_without_same x f) (λ y n. go y n (nat_eq x y) refl)
  where
    go : (y : ℕ) → ¬ (Among (x ∷ xs) y) → (b : Bool) → nat_eq x y ≡ b → coefficient y (without x f) ≡ pos 0
    go y n true e = absurd (n (inl (eqb-true x y e)))
    go y n false e = coefficient_without_other x y f e ∙ o.names_among y n

module _ (x : ℕ) (xs : List ℕ) (rows : List Row) (over : AreRowsOver (x ∷ xs) rows) where
  row_over : (r : Row) → Among rows r → IsOver (x ∷ xs) r.form
  row_over r m = each_among (λ (r : Row). IsOver (x ∷ xs) r.form) rows r over m

  both_zero : (t a b q u l : ℤ) → pos 0 <ℤ t → t *ℤ q ≡ a *ℤ u +ℤ b *ℤ l → u ≡ pos 0 → l ≡ pos 0 → q ≡ pos 0
  both_zero t a b q u l pt e f g =
      let i = ap (λ z. a *ℤ z) f ∙ mul_zero a in
      let j = ap (λ z. b *ℤ z) g ∙ mul_zero b in
      let k = mul_zero t in
      let h : t *ℤ q ≡ t *ℤ pos 0 = omega (arith, ints) in
      cancel_positive t pt h

  pub after_over : AreRowsOver xs (rows_after x rows)
  after_over =
      each_from (λ (r : Row). IsOver xs r.form) (rows_after x rows) (λ r m.
      by_origin x rows r m
      (λ old. let i = absent_row x rows r old in let o = row_over r i.0 in without_it x xs r.form o.sorted i.1 o.names_among)
      (λ pair new same.
      let i = pair_is x rows pair new in
      let n = new_row_is x pair i.above_positive i.below_positive in
      let u = row_over pair.upper i.upper in
      let l = row_over pair.lower i.lower in
      subst (λ (r : Row). IsOver xs r.form) same
      (without_it x xs (without_name x pair).form n.sorted n.name_gone (λ y k. both_zero n.times n.first n.second (coefficient y (without_name x pair).form) (coefficient y pair.upper.form) (coefficient y pair.lower.form) n.times_positive (n.coefficients y) (u.names_among y k) (l.names_among y k)))))

-- ---- rows without names

nowhere : (y : ℕ) → ¬ (Among [] y)
nowhere y m = m

-- its value is its constant
value_constant : (f : Form) (p : Point ℕ) → IsOver [] f → value f p ≡ f.constant *ℤ pos p.below
unfolding value
value_constant f p o = ap (λ z. z +ℤ f.constant *ℤ pos p.below) (empty f.terms (over_terms [] f o)) ∙ omega (arith, ints)
  where
    empty : (ts : List Term) → EachOf (λ (t : Term). Among [] t.name) ts → total ts p.at ≡ pos 0
    empty [] h = refl
    empty (t ∷ ts) h = absurd h.0

-- ---- false rows and true rows

not_less : (z w : ℤ) → int_lt z w ≡ false → w ≤ℤ z
not_less z w e = grind (arith, ints)

neither : (a b : Bool) → (a || b) ≡ false → (a ≡ false) × (b ≡ false)
neither true b e = absurd cc
neither false b e = (refl, e)

-- a row that isn't false holds of its constant
true_constant : (s : Bool) (c : ℤ) → (int_lt (pos 0) c || (s && int_eq c (pos 0))) ≡ false → Holds s c
true_constant true c e =
    let i = neither (int_lt (pos 0) c) (int_eq c (pos 0)) e in
    let h = not_less (pos 0) c i.0 in
    by_zero c (λ z. absurd cc ((signed_Decides c (pos 0)).1 z, i.1)) (λ n. by_less c (pos 0) (λ l. l) (λ (k : pos 0 ≤ℤ c). absurd (n (omega (arith, ints)))))
true_constant false c e = not_less (pos 0) c (neither (int_lt (pos 0) c) false e).0

first_none : (rows : List Row) → first_false rows ≡ None → EachOf (λ (r : Row). is_false r ≡ false) rows
first_none [] e = tt
first_none (r ∷ rows) e = go (is_false r) refl e (first_none rows)
  where
    go : (b : Bool) → is_false r ≡ b → (if b then Some r else first_false rows) ≡ None → (first_false rows ≡ None → EachOf (λ (r : Row). is_false r ≡ false) rows) → (is_false r ≡ false) × EachOf (λ (r : Row). is_false r ≡ false) rows
    go true f g ih = none_some r (sym g)
    go false f g ih = (f, ih g)

first_some : (rows : List Row) (q : Row) → first_false rows ≡ Some q → Among rows q × (is_false q ≡ true)
first_some [] q e = none_some q e
first_some (r ∷ rows) q e = go (is_false r) refl e (first_some rows q)
  where
    go : (b : Bool) → is_false r ≡ b → (if b then Some r else first_false rows) ≡ Some q → (first_false rows ≡ Some q → Among rows q × (is_false q ≡ true)) → Among (r ∷ rows) q × (is_false q ≡ true)
    go true f g ih = let s = some_same r q g in (inl s, subst (λ (z : Row). is_false z ≡ true) s f)
    go false f g ih = let i = ih g in (inr i.0, i.1)

-- where no row is false, all hold at every point
pub none_false : (rows : List Row) (p : Point ℕ) → Of Fields p → AreRowsOver [] rows → first_false rows ≡ None → RowsHold p rows
none_false rows p o over e =
    let each = first_none rows e in
    let below : pos 0 <ℤ pos p.below = omega (arith, ints) in
    each_from (λ (r : Row). Holds r.strict (value r.form p)) rows (λ r m.
    let h = true_constant r.strict r.form.constant (each_among (λ (r : Row). is_false r ≡ false) rows r each m) in
    subst (Holds r.strict) (mul_comm (pos p.below) r.form.constant ∙ sym (value_constant r.form p (each_among (λ (r : Row). IsOver [] r.form) rows r over m)))
    ((holds_mul r.strict (pos p.below) r.form.constant below).0 h))

-- a false row: its constant is positive, or 0 where it is strict
too_large : (s : Bool) (c : ℤ) → (int_lt (pos 0) c || (s && int_eq c (pos 0))) ≡ true → (pos 0 <ℤ c) ⊎ ((c ≡ pos 0) × (s ≡ true))
too_large s c e = ⊎_elim (λ l. inl (less_told (pos 0) c l)) (λ k. inr (zero s k)) (some_true (int_lt (pos 0) c) (s && int_eq c (pos 0)) e)
  where
    zero : (s : Bool) → (s && int_eq c (pos 0)) ≡ true → (c ≡ pos 0) × (s ≡ true)
    zero true k = ((signed_Decides c (pos 0)).0 k, refl)
    zero false k = absurd cc

nothing_added : (s w : ℤ) → s ≡ pos 0 +ℤ w → s ≡ w
nothing_added s w e = omega (arith, ints)

nothing_has : (y : ℕ) → coefficient y nothing ≡ pos 0
unfolding coefficient
nothing_has y = refl

-- the multipliers of a false row without names are a certificate
false_farkas : (cs : List Constraint) (r : Row) → IsDerived 0 cs r → IsOver [] r.form → is_false r ≡ true → IsFarkas cs (multipliers_from 0 cs r.multipliers)
false_farkas cs r d o e =
    let ms = multipliers_from 0 cs r.multipliers in
    let constant : (sum_from nothing cs ms).constant ≡ r.form.constant =
    nothing_added _ _ (sum_weighed constant_of (λ a f b g. constant_combine a f b g) r.multipliers 0 cs nothing) ∙ sym d.constant in
    record {
      allowed = d.allowed;
      no_names = λ y.
          sum_weighed (coefficient y) (λ a f b g. coefficient_combine y a f b g) r.multipliers 0 cs nothing
          ∙ ap (λ z. z +ℤ weighed (coefficient y) 0 cs (times_of r)) (nothing_has y)
          ∙ ap (λ z. pos 0 +ℤ z) (sym (d.coefficients y) ∙ o.names_among y (nowhere y));
      constant = ⊎_elim (λ h. inl (subst (λ z. pos 0 <ℤ z) (sym constant) h)) (λ h. inr (constant ∙ h.0, d.strict h.1)) (too_large r.strict r.form.constant e);
    }

pub first_farkas : (cs : List Constraint) (rows : List Row) (r : Row) → EachOf (IsDerived 0 cs) rows → AreRowsOver [] rows → first_false rows ≡ Some r → IsFarkas cs (multipliers_from 0 cs r.multipliers)
first_farkas cs rows r derived over e =
    let i = first_some rows r e in
    false_farkas cs r (each_among (IsDerived 0 cs) rows r derived i.0) (each_among (λ (r : Row). IsOver [] r.form) rows r over i.0) i.1
