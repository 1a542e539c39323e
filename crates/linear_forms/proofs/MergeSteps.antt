-- One step of the merge of two lists of terms.
use Rattle.std.proofs.Common.{◌≡◌, inl, inr, ℕ, List, [], ◌∷◌, ◌++◌, ap, sym, ◌∙◌, subst, refl, arith}
use Rattle.std.proofs.Math.IntN.{ℤ, pos, ◌+ℤ◌, ◌*ℤ◌}
use Rattle.std.proofs.lemmas.Int.{ints}
use Rattle.std.proofs.lemmas.Bool.{cases_eq}
use Rattle.exact_numbers.specs.Limit.{InLimit}
use Rattle.exact_numbers.proofs.Ring.{ring, mul_zero, zero_mul, mul_one}
use Rattle.logic_meaning.specs.Form.{Form, Term, total, multiple, coefficient, value}
use Rattle.logic_meaning.specs.Sorted.{IsRising}
use Rattle.logic_meaning.specs.Terms.{PlaceWithin, PlacePasses}
use Rattle.linear_forms.specs.Combinations.{IsCombination}
use Rattle.linear_forms.specs.Merging.{IsNext, IsPeeled, IsHandled, IsMerged}
use Rattle.formula_laws.proofs.Sorted.{multiple_above}
use Rattle.linear_forms.proofs.Totals.{one_at, multiple_total, one_at_same, one_at_other, total_push}
use Rattle.linear_forms.proofs.Rising.{rising_push, nonzero_push, within_push, precede_push, precede_next}

-- ---- the multiples of a list peeled at x

pub peeled_same : (xs : List Term) (x : ℕ) (k : ℤ) (rest : List Term) → IsPeeled xs x k rest → multiple x xs ≡ k
peeled_same xs x k rest p =
    let s = p.sums (one_at x) in let o = ap (λ z. k *ℤ z) (one_at_same x) in let m = mul_one k in
    let a = multiple_total x xs in let b = multiple_total x rest in let z = multiple_above x rest p.above in
    omega (arith, ints)

pub peeled_other : (xs : List Term) (x : ℕ) (k : ℤ) (rest : List Term) (y : ℕ) → IsPeeled xs x k rest → ¬ (y ≡ x) → multiple y xs ≡ multiple y rest
peeled_other xs x k rest y p n =
    let s = p.sums (one_at y) in let o = ap (λ z. k *ℤ z) (one_at_other y x n) in let m = mul_zero k in
    let a = multiple_total y xs in let b = multiple_total y rest in
    omega (arith, ints)

-- ---- the start and the end

handled_start : (a : ℤ) (left : List Term) (b : ℤ) (right : List Term) (x : ℕ) → IsHandled a left b right left right x
handled_start a left b right x = inl (refl, refl)

pub merged_start : (a : ℤ) (left : List Term) (b : ℤ) (right : List Term) → IsRising left → IsRising right → IsMerged a left b right [] left right
merged_start a left b right r s =
    record {
      sums = λ at. omega (arith, ints);
      rising = tt;
      nonzero = tt;
      within = tt;
      before_left = tt;
      before_right = tt;
      left_rising = r;
      right_rising = s;
      places = handled_start a left b right;
    }

-- ---- one name more

sums_step : (a b m x y z n xs ys xr yr k : ℤ) → xs ≡ x *ℤ n +ℤ xr → ys ≡ y *ℤ n +ℤ yr → z ≡ a *ℤ x +ℤ b *ℤ y → m +ℤ (a *ℤ xs +ℤ b *ℤ ys) ≡ k → (m +ℤ z *ℤ n) +ℤ (a *ℤ xr +ℤ b *ℤ yr) ≡ k
sums_step a b m x y z n xs ys xr yr k ex ey ez e =
    let p = simp ring at (ap (λ w. a *ℤ w) ex) in
    let q = simp ring at (ap (λ w. b *ℤ w) ey) in
    let r = simp ring at (ap (λ w. w *ℤ n) ez) in
    omega (arith, ints, p, q, r, e)

nothing_passes : (a b x y : ℤ) → x ≡ pos 0 → y ≡ pos 0 → PlacePasses (a *ℤ x) (b *ℤ y) → ⊥
nothing_passes a b x y ex ey h =
    let p : a *ℤ x ≡ pos 0 = ap (λ z. a *ℤ z) ex ∙ mul_zero a in
    let q : b *ℤ y ≡ pos 0 = ap (λ z. b *ℤ z) ey ∙ mul_zero b in
    elim h.cause [ inl c ↦ omega (arith, ints, p, c) | inr d ↦ elim d [ inl c ↦ omega (arith, ints, q, c) | inr c ↦ omega (arith, ints, p, q, c) ] ]

module _ {a : ℤ} {left : List Term} {b : ℤ} {right merged xs ys : List Term} (n : ℕ) (x y : ℤ) (xr yr : List Term) (i : IsMerged a left b right merged xs ys) (p : IsPeeled xs n x xr) (q : IsPeeled ys n y yr) where
  -- a place that passes the limit does so in the whole lists
  pub place_passes : PlacePasses (a *ℤ x) (b *ℤ y) → PlacePasses (a *ℤ multiple n left) (b *ℤ multiple n right)
  place_passes h =
      let s = peeled_same xs n x xr p in let t = peeled_same ys n y yr q in
      elim (i.places n) [
        | inl e ↦
            let u = e.0 ∙ s in let v = e.1 ∙ t in
            subst (λ (k : ℤ). PlacePasses (a *ℤ k) (b *ℤ multiple n right)) (sym u) (subst (λ (k : ℤ). PlacePasses (a *ℤ x) (b *ℤ k)) (sym v) h)
        | inr e ↦ absurd (nothing_passes a b x y (sym s ∙ e.1) (sym t ∙ e.2) h)
      ]

  place_within : PlaceWithin (a *ℤ x) (b *ℤ y) → PlaceWithin (a *ℤ multiple n left) (b *ℤ multiple n right)
  place_within h =
      let s = peeled_same xs n x xr p in let t = peeled_same ys n y yr q in
      elim (i.places n) [
        | inl e ↦
            let u = e.0 ∙ s in let v = e.1 ∙ t in
            subst (λ (k : ℤ). PlaceWithin (a *ℤ k) (b *ℤ multiple n right)) (sym u) (subst (λ (k : ℤ). PlaceWithin (a *ℤ x) (b *ℤ k)) (sym v) h)
        | inr e ↦ e.0
      ]

  handled_next : PlaceWithin (a *ℤ x) (b *ℤ y) → (v : ℕ) → IsHandled a left b right xr yr v
  handled_next w v =
      elim (cases_eq v n) [
        | inl e ↦ subst (λ (k : ℕ). IsHandled a left b right xr yr k) (sym e) (inr (place_within w, multiple_above n xr p.above, multiple_above n yr q.above))
        | inr d ↦
            let s = peeled_other xs n x xr v p d in let t = peeled_other ys n y yr v q d in
            elim (i.places v) [ inl e ↦ inl (e.0 ∙ s, e.1 ∙ t) | inr e ↦ inr (e.0, sym s ∙ e.1, sym t ∙ e.2) ]
      ]

  -- a name whose multiples add up to 0 is left out
  pub merged_nothing : PlaceWithin (a *ℤ x) (b *ℤ y) → a *ℤ x +ℤ b *ℤ y ≡ pos 0 → IsMerged a left b right merged xr yr
  merged_nothing w e =
      record {
        sums = λ at. let s = sums_step a b (total merged at) x y (pos 0) (at n) (total xs at) (total ys at) (total xr at) (total yr at) (a *ℤ total left at +ℤ b *ℤ total right at) (p.sums at) (q.sums at) (sym e) (i.sums at) in let z = zero_mul (at n) in omega (arith, ints, s);
        rising = i.rising;
        nonzero = i.nonzero;
        within = i.within;
        before_left = p.kept merged i.before_left;
        before_right = q.kept merged i.before_right;
        left_rising = p.rising;
        right_rising = q.rising;
        places = handled_next w;
      }

  -- and one whose multiples add up to another number is put at the end
  pub merged_term : (z : ℤ) → IsNext n xs ys → PlaceWithin (a *ℤ x) (b *ℤ y) → z ≡ a *ℤ x +ℤ b *ℤ y → ¬ (z ≡ pos 0) → IsMerged a left b right (merged ++ record { times = z; name = n } ∷ []) xr yr
  merged_term z next w e nz =
      let t : Term = record { times = z; name = n } in
      record {
        sums = λ at. ap (λ m. m +ℤ (a *ℤ total xr at +ℤ b *ℤ total yr at)) (total_push merged t at) ∙ sums_step a b (total merged at) x y z (at n) (total xs at) (total ys at) (total xr at) (total yr at) (a *ℤ total left at +ℤ b *ℤ total right at) (p.sums at) (q.sums at) e (i.sums at);
        rising = rising_push merged t i.rising (precede_next merged xs ys t next i.before_left i.before_right);
        nonzero = nonzero_push merged t i.nonzero nz;
        within = within_push merged t i.within (subst (λ (k : ℤ). InLimit k) (sym e) w.sum);
        before_left = precede_push merged t xr (p.kept merged i.before_left) p.above;
        before_right = precede_push merged t yr (q.kept merged i.before_right) q.above;
        left_rising = p.rising;
        right_rising = q.rising;
        places = handled_next w;
      }

-- ---- the end

nothing_within : (a b x y : ℤ) → x ≡ pos 0 → y ≡ pos 0 → PlaceWithin (a *ℤ x) (b *ℤ y)
nothing_within a b x y ex ey =
    let p : a *ℤ x ≡ pos 0 = ap (λ z. a *ℤ z) ex ∙ mul_zero a in
    let q : b *ℤ y ≡ pos 0 = ap (λ z. b *ℤ z) ey ∙ mul_zero b in
    record { first = omega (arith, ints, p); second = omega (arith, ints, q); sum = omega (arith, ints, p, q) }

pub merged_places : (a : ℤ) (left : List Term) (b : ℤ) (right merged : List Term) → IsMerged a left b right merged [] [] → (v : ℕ) → PlaceWithin (a *ℤ multiple v left) (b *ℤ multiple v right)
merged_places a left b right merged i v = elim (i.places v) [ inl e ↦ nothing_within a b (multiple v left) (multiple v right) e.0 e.1 | inr e ↦ e.0 ]

pub merged_sums : (a : ℤ) (left : List Term) (b : ℤ) (right merged : List Term) → IsMerged a left b right merged [] [] → (at : ℕ → ℤ) → total merged at ≡ a *ℤ total left at +ℤ b *ℤ total right at
merged_sums a left b right merged i at = let s = i.sums at in let p = mul_zero a in let q = mul_zero b in omega (arith, ints, s)

value_sums : (a b r s t c k l w : ℤ) → r ≡ a *ℤ s +ℤ b *ℤ t → c ≡ a *ℤ k +ℤ b *ℤ l → r +ℤ c *ℤ w ≡ a *ℤ (s +ℤ k *ℤ w) +ℤ b *ℤ (t +ℤ l *ℤ w)
value_sums a b r s t c k l w e f = let g = simp ring at (ap (λ z. z *ℤ w) f) in simp ring (omega (arith, ints, e, g))

pub combination : (a : ℤ) (f : Form) (b : ℤ) (g : Form) (merged : List Term) (c : ℤ) → IsMerged a f.terms b g.terms merged [] [] → PlaceWithin (a *ℤ f.constant) (b *ℤ g.constant) → c ≡ a *ℤ f.constant +ℤ b *ℤ g.constant → IsCombination a f b g (record { terms = merged; constant = c })
unfolding coefficient value
combination a f b g merged c i w e =
    let sums = merged_sums a f.terms b g.terms merged i in
    record {
      linear = record { sorted = record { rising = i.rising; nonzero = i.nonzero }; within = i.within; constant_within = subst (λ (k : ℤ). InLimit k) (sym e) w.sum };
      coefficients_add = λ x. multiple_total x merged ∙ sums (one_at x) ∙ sym (ap (λ k. a *ℤ k +ℤ b *ℤ multiple x g.terms) (multiple_total x f.terms) ∙ ap (λ k. a *ℤ total f.terms (one_at x) +ℤ b *ℤ k) (multiple_total x g.terms));
      constants_add = e;
      values_add = λ p. value_sums a b (total merged p.at) (total f.terms p.at) (total g.terms p.at) c f.constant g.constant (pos p.below) (sums p.at) e;
      within = record { places = merged_places a f.terms b g.terms merged i; constants = w };
    }
