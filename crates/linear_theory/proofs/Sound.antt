-- What the search gives is a certificate.
use Rattle.std.proofs.Common.{◌≡◌, ℕ, suc, Bool, true, false, List, [], ◌∷◌, ◌++◌, map, length, Option, Some, None, inl, inr, ⊎_elim, refl, sym, ap, ◌∙◌, subst, arith, nat_eq, if◌then◌else◌, eqb-true, eq-eqb, unsigned_abs}
use Rattle.std.proofs.Math.IntN.{ℤ, pos, negsuc, ◌*ℤ◌}
use Rattle.std.specs.Prelude.{◌<ℤ◌, ◌≤ℤ◌}
use Rattle.std.proofs.lemmas.Int.{ints}
use Rattle.exact_numbers.specs.Frac.{Frac}
use Rattle.exact_numbers.proofs.Ring.{mul_comm, mul_assoc, mul_left_comm}
use Rattle.exact_numbers.proofs.Order.{cancel_positive}
use Rattle.logic_meaning.specs.Context.{Fields}
use Rattle.formula_laws.specs.StandsOnce.{StandsOnce}
use Rattle.logic_meaning.specs.Point.{Point, Of}
use Rattle.logic_meaning.specs.Form.{Form, value, scale}
use Rattle.logic_meaning.specs.Measured.{Outcome, stopped, done, then_of, pay, within}
use Rattle.formula_laws.specs.Giving.{Gives}
use Rattle.logic_meaning.specs.Shape.{is_in}
use Rattle.logic_meaning.specs.Some.{SomeOf, Among, EachOf}
use Rattle.logic_meaning.specs.Sorted.{gathered}
use Rattle.formula_laws.proofs.Gathered.{value_gathered}
use Rattle.formula_laws.proofs.Values.{below_move, at_move, pos_mul, value_scale}
use Rattle.elimination_theory.proofs.SomeListed.{each_left, each_right, each_among}
use Rattle.elimination_theory.proofs.Always.{Always, gives_then, always_then, always_give, always_pay, always_within}
use Rattle.logic_meaning.specs.Values.{Value, value_names, with_value, with_values, IsValue, origin}
use Rattle.sample_reference.proofs.Chain.{origin_of, others_stay}
use Rattle.sample_reference.proofs.SamePoints.{abs_positive, values_of_theory}
use Rattle.logic_meaning.specs.Constraints.{Bound, Equal, AtMost, Below, Constraint}
use Rattle.linear_theory.specs.Meeting.{Stands, MeetsAll}
use Rattle.logic_meaning.specs.Farkas.{IsFarkas}
use Rattle.logic_meaning.specs.Rows.{Row, bound_rows, rows_from, absent, Pair, pairs, pair_within, without_name}
use Rattle.linear_theory.specs.RowsHold.{Holds, RowsHold, rows_after}
use Rattle.logic_meaning.specs.Bounds.{value_among, found_value}
use Rattle.logic_meaning.specs.Search.{Certificate, At, Farkas, new_row, new_rows, next_rows, first_false, last_answer, put_first, extended, search_from}
use Rattle.linear_theory.specs.Theorems.{IsCertificate, SearchIsSound}
use Rattle.linear_theory.proofs.NewRow.{new_row_is}
use Rattle.linear_theory.proofs.Lists.{each_from, absent_row, pair_is, by_origin}
use Rattle.linear_theory.proofs.Derived.{IsDerived, new_derived, rows_derived}
use Rattle.linear_theory.proofs.Over.{AreRowsOver, rows_over, after_over, none_false, first_farkas}
use Rattle.linear_theory.proofs.Found.{IsFraction, found_is}

-- ---- values put in one after the other

not_in : (x : ℕ) (xs : List ℕ) → ¬ (SomeOf (λ y. x ≡ y) xs) → is_in nat_eq x xs ≡ false
not_in x [] n = refl
not_in x (y ∷ ys) n = go (nat_eq x y) refl (not_in x ys)
  where
    go : (b : Bool) → nat_eq x y ≡ b → (¬ (SomeOf (λ z. x ≡ z) ys) → is_in nat_eq x ys ≡ false) → (if b then true else is_in nat_eq x ys) ≡ false
    go true e ih = absurd (n (inl (eqb-true x y e)))
    go false e ih = ih (λ m. n (inr m))

below_positive : (p : Point ℕ) → Of Fields p → pos 0 <ℤ pos p.below
below_positive p o = omega (arith, ints)

stays_over : (D a d n b : ℤ) → pos 0 <ℤ b → a *ℤ (b *ℤ d) ≡ (n *ℤ b) *ℤ D → n *ℤ D ≡ a *ℤ d
stays_over D a d n b h e = cancel_positive b h (sym (mul_assoc b n D) ∙ ap (λ z. z *ℤ D) (mul_comm b n) ∙ sym e ∙ mul_left_comm a b d)

-- a name that isn't among the later ones keeps its value
first_over : (v : Value) (vs : List Value) (p : Point ℕ) → Of Fields p → EachOf (IsValue Fields) (v ∷ vs) → ¬ (SomeOf (λ y. v.name ≡ y) (value_names vs)) →
    IsFraction (pos (with_values p (v ∷ vs)).below) v.at ((with_values p (v ∷ vs)).at v.name)
first_over v vs p o each n =
    let m = unsigned_abs v.at.denominator in
    let k = v.at.numerator *ℤ pos p.below in
    let q = with_values p (v ∷ vs) in
    let here : (with_value p v).at v.name ≡ k = at_move nat_eq p v.name k m v.name ∙ ap (λ (b : Bool). if b then k else pos m *ℤ p.at v.name) (eq-eqb v.name v.name refl) in
    let below : pos (with_value p v).below ≡ pos p.below *ℤ v.at.denominator = ap pos (below_move nat_eq p v.name k m) ∙ pos_mul p.below m ∙ ap (λ z. pos p.below *ℤ z) (abs_positive v.at.denominator each.0.proper) in
    stays_over (pos q.below) (q.at v.name) v.at.denominator v.at.numerator (pos p.below) (below_positive p o)
    (ap (λ z. q.at v.name *ℤ z) (sym below) ∙ others_stay Fields vs (with_value p v) each.1 v.name (not_in v.name (value_names vs) n) ∙ ap (λ z. z *ℤ pos q.below) here)

-- each of the names has its value
all_over : (vs : List Value) (p : Point ℕ) → Of Fields p → EachOf (IsValue Fields) vs → StandsOnce (value_names vs) → (y : ℕ) → Among (value_names vs) y →
    IsFraction (pos (with_values p vs).below) (value_among vs y) ((with_values p vs).at y)
all_over [] p o each once y m = absurd m
all_over (v ∷ vs) p o each once y m = go (nat_eq v.name y) refl (all_over vs (with_value p v) (values_of_theory Fields (v ∷ []) p (each.0, tt) o) each.1 once.1 y)
  where
    go : (b : Bool) → nat_eq v.name y ≡ b → (Among (value_names vs) y → IsFraction (pos (with_values p (v ∷ vs)).below) (value_among vs y) ((with_values p (v ∷ vs)).at y)) →
        IsFraction (pos (with_values p (v ∷ vs)).below) (if b then v.at else value_among vs y) ((with_values p (v ∷ vs)).at y)
    go true e ih = subst (λ (z : ℕ). IsFraction (pos (with_values p (v ∷ vs)).below) v.at ((with_values p (v ∷ vs)).at z)) (eqb-true v.name y e) (first_over v vs p o each once.0)
    go false e ih = ih (⊎_elim (λ i. absurd cc (sym e ∙ eq-eqb v.name y i)) (λ n. n) m)

-- ---- the counted step makes these rows

new_made : (limit x : ℕ) (pair : Pair) → Always (λ (r : Row). r ≡ without_name x pair) (new_row limit x pair)
new_made limit x pair =
    always_then (λ u. Unit {0}) (λ (r : Row). r ≡ without_name x pair) (pay limit 1) _ (always_pay limit 1) (λ u t.
    always_then (λ u. Unit {0}) (λ (r : Row). r ≡ without_name x pair) (within (pair_within x pair)) _ (always_within (pair_within x pair)) (λ w s.
    always_give (λ (r : Row). r ≡ without_name x pair) (without_name x pair) refl))

all_made : (limit x : ℕ) (ps : List Pair) → Always (λ (rows : List Row). rows ≡ map (without_name x) ps) (new_rows limit x ps)
all_made limit x [] = always_give (λ (rows : List Row). rows ≡ []) [] refl
all_made limit x (pair ∷ ps) =
    always_then (λ (r : Row). r ≡ without_name x pair) (λ (rows : List Row). rows ≡ map (without_name x) (pair ∷ ps)) (new_row limit x pair) _ (new_made limit x pair) (λ r e.
    always_then (λ (rows : List Row). rows ≡ map (without_name x) ps) (λ (rows : List Row). rows ≡ map (without_name x) (pair ∷ ps)) (new_rows limit x ps) _ (all_made limit x ps) (λ rows f.
    always_give (λ (rows : List Row). rows ≡ map (without_name x) (pair ∷ ps)) (r ∷ rows) (ap (λ (z : Row). z ∷ rows) e ∙ ap (λ (zs : List Row). without_name x pair ∷ zs) f)))

step_made : (limit x : ℕ) (rows : List Row) → Always (λ (next : List Row). next ≡ rows_after x rows) (next_rows limit x rows)
step_made limit x rows =
    always_then (λ (new : List Row). new ≡ map (without_name x) (pairs x rows)) (λ (next : List Row). next ≡ rows_after x rows) (new_rows limit x (pairs x rows)) _ (all_made limit x (pairs x rows)) (λ new e.
    always_give (λ (next : List Row). next ≡ rows_after x rows) (absent x rows ++ new) (ap (λ (zs : List Row). absent x rows ++ zs) e))

after_derived : (cs : List Constraint) (x : ℕ) (rows : List Row) → EachOf (IsDerived 0 cs) rows → EachOf (IsDerived 0 cs) (rows_after x rows)
after_derived cs x rows derived =
    each_from (IsDerived 0 cs) (rows_after x rows) (λ r m.
    by_origin x rows r m
    (λ old. each_among (IsDerived 0 cs) rows r derived (absent_row x rows r old).0)
    (λ pair new same.
    let i = pair_is x rows pair new in
    let known = λ (r : Row) (n : Among rows r). each_among (IsDerived 0 cs) rows r derived n in
    subst (IsDerived 0 cs) same (new_derived 0 cs x pair (without_name x pair) (known pair.upper i.upper) (known pair.lower i.lower) (new_row_is x pair i.above_positive i.below_positive))))

-- ---- the search

-- values of the names with which the rows hold at every point
record AreValues (names : List ℕ) (rows : List Row) (vs : List Value) : Type 0 where
  named : value_names vs ≡ names
  each : EachOf (IsValue Fields) vs
  hold : (p : Point ℕ) → Of Fields p → RowsHold (with_values p vs) rows

module _ (limit : ℕ) (cs : List Constraint) where
  abbrev IsFor : List ℕ → List Row → Certificate → Type 0
  IsFor names rows (At vs) = AreValues names rows vs
  IsFor names rows (Farkas ms) = IsFarkas cs ms

  last_is : (rows : List Row) → AreRowsOver [] rows → EachOf (IsDerived 0 cs) rows → IsFor [] rows (last_answer cs (first_false rows))
  last_is rows over derived = go (first_false rows) refl
    where
      go : (o : Option Row) → first_false rows ≡ o → IsFor [] rows (last_answer cs o)
      go None e = record { named = refl; each = tt; hold = λ p o. none_false rows p o over e }
      go (Some r) e = first_farkas cs rows r derived over e

  -- the value of x put before values of the names after it
  put_is : (x : ℕ) (xs : List ℕ) (rows : List Row) (vs : List Value) → StandsOnce (x ∷ xs) → AreRowsOver (x ∷ xs) rows → AreValues xs (rows_after x rows) vs → (o : Option Frac) → found_value x rows vs ≡ o → Gives (IsFor (x ∷ xs) rows) (put_first x o vs)
  put_is x xs rows vs once over known None e = tt
  put_is x xs rows vs once over known (Some a) e =
      let v : Value = record { name = x; at = a } in
      let out : ¬ (SomeOf (λ y. x ≡ y) (value_names vs)) = subst (λ names. ¬ (SomeOf (λ y. x ≡ y) names)) (sym known.named) once.0 in
      let around : AreRowsOver (x ∷ value_names vs) rows = subst (λ names. AreRowsOver (x ∷ names) rows) (sym known.named) over in
      let found = λ (q : Point ℕ) (oq : Of Fields q). found_is x vs (with_values q vs) known.each
      (all_over vs q oq known.each (subst StandsOnce (sym known.named) once.1)) rows around (values_of_theory Fields vs q known.each oq) (known.hold q oq) a e in
      let at_origin = found origin (origin_of Fields) in
      let is : IsValue Fields v = record { proper = at_origin.proper; lowest_terms = at_origin.lowest_terms; whole = tt } in
      record {
        named = ap (λ names. x ∷ names) known.named;
        each = (is, known.each);
        hold = λ p o.
            let o' = values_of_theory Fields (v ∷ []) p (is, tt) o in
            (found (with_value p v) o').holds (first_over v vs p o (is, known.each) out);
      }

  extended_is : (x : ℕ) (xs : List ℕ) (rows : List Row) (c : Certificate) → StandsOnce (x ∷ xs) → AreRowsOver (x ∷ xs) rows → IsFor xs (rows_after x rows) c → Gives (IsFor (x ∷ xs) rows) (extended x rows c)
  extended_is x xs rows (At vs) once over known = put_is x xs rows vs once over known (found_value x rows vs) refl
  extended_is x xs rows (Farkas ms) once over known = known

  search_is : (names : List ℕ) (rows : List Row) (cost : ℕ) → StandsOnce names → AreRowsOver names rows → EachOf (IsDerived 0 cs) rows → Gives (IsFor names rows) (search_from limit cs names rows cost)
  search_is [] rows cost once over derived = last_is rows over derived
  search_is (x ∷ xs) rows cost once over derived =
      gives_then (λ (next : List Row × ℕ). next.0 ≡ rows_after x rows) (IsFor (x ∷ xs) rows) (next_rows limit x rows cost) (λ next. then_of (search_from limit cs xs next.0 next.1) (extended x rows)) (step_made limit x rows cost) (λ next e.
      gives_then (IsFor xs (rows_after x rows)) (IsFor (x ∷ xs) rows) (search_from limit cs xs next.0 next.1) (extended x rows)
      (subst (λ (after : List Row). Gives (IsFor xs after) (search_from limit cs xs next.0 next.1)) e
      (search_is xs next.0 next.1 once.1 (subst (AreRowsOver xs) (sym e) (after_over x xs rows over)) (subst (EachOf (IsDerived 0 cs)) (sym e) (after_derived cs x rows derived))))
      (λ c known. extended_is x xs rows c once over known))

-- ---- the rows hold where the constraints are met

equal_both : (v w : ℤ) → w ≡ negsuc 0 *ℤ v → v ≤ℤ pos 0 → w ≤ℤ pos 0 → v ≡ pos 0
equal_both v w e h k = omega (arith, ints)

bound_met : (place : ℕ) (bound : Bound) (f : Form) (p : Point ℕ) → RowsHold p (bound_rows place bound f) → Stands bound (value f p)
bound_met place Equal f p h = equal_both (value f p) (value (scale (negsuc 0) f) p) (value_scale (negsuc 0) f p) h.0 h.1.0
bound_met place AtMost f p h = h.0
bound_met place Below f p h = h.0

pub rows_met : (place : ℕ) (cs : List Constraint) (p : Point ℕ) → RowsHold p (rows_from place cs) → MeetsAll p cs
rows_met place [] p h = tt
rows_met place (c ∷ cs) p h =
    let R = λ (r : Row). Holds r.strict (value r.form p) in
    let own = bound_rows place c.bound (gathered c.form) in (
      subst (Stands c.bound) (value_gathered c.form p) (bound_met place c.bound (gathered c.form) p (each_left R own (rows_from (suc place) cs) h)),
      rows_met (suc place) cs p (each_right R own (rows_from (suc place) cs) h),
    )

pub search_sound : SearchIsSound
search_sound limit names cs once over =
    let rows = rows_from 0 cs in
    finish (search_from limit cs names rows (length rows)) (search_is limit cs names rows (length rows) once (rows_over names 0 cs over) (rows_derived cs))
  where
    finish : (o : Outcome Certificate) → Gives (IsFor limit cs names (rows_from 0 cs)) o → Gives (IsCertificate names cs) o
    finish (stopped s) h = tt
    finish (done (At vs)) h = record { named = h.named; each = h.each; meets = rows_met 0 cs (with_values origin vs) (h.hold origin (origin_of Fields)) }
    finish (done (Farkas ms)) h = h
