-- Over the ordered fields the calculated value is the sample of the place.
use Rattle.std.proofs.Common.{◌≡◌, ℕ, ◌*◌, ◌<◌, Bool, true, false, List, [], ◌∷◌, map, Option, Some, None, inl, inr, refl, sym, ap, ◌∙◌, subst, arith, if◌then◌else◌, unsigned_abs, subst₂}
use Rattle.std.proofs.Math.IntN.{ℤ, pos, negsuc, neg_ℤ, ◌+ℤ◌, ◌-ℤ◌, ◌*ℤ◌}
use Rattle.std.specs.Prelude.{◌<ℤ◌, ◌≤ℤ◌, MatchOption}
use Rattle.std.proofs.lemmas.Int.{ints}
use Rattle.exact_numbers.specs.Frac.{Frac, IsProper, IsLowest, lowest, whole_frac, sum_step, product_step}
use Rattle.exact_numbers.specs.ExactSteps.{SumPasses, IsExactSum, ProductPasses, IsExactProduct}
use Rattle.exact_numbers.proofs.Ring.{ring, mul_one, one_mul, zero_mul}
use Rattle.exact_numbers.proofs.Order.{cancel_positive, cancel_less, mul_less}
use Rattle.exact_numbers.proofs.FractionRule.{lowest_proper, lowest_value, sum_step_gives, product_step_gives, whole_lowest}
use Rattle.logic_meaning.specs.Context.{Context, Fields}
use Rattle.logic_meaning.specs.Point.{Point}
use Rattle.logic_meaning.specs.Some.{Among, EachOf}
use Rattle.logic_meaning.specs.Form.{Form, value, total}
use Rattle.logic_meaning.specs.Atom.{form_of}
use Rattle.formula_laws.specs.TheoryAtoms.{AtomIn}
use Rattle.logic_meaning.specs.Answer.{Place, Exact, AboveBy, BelowBy, PlusInfinity, MinusInfinity, Periodic}
use Rattle.logic_meaning.specs.Tree.{Tree}
use Rattle.formula_laws.proofs.Values.{pos_mul}
use Rattle.logic_meaning.specs.Terms.{value_steps, ValuePasses}
use Rattle.elimination_theory.proofs.FromLinearForms.{value_steps_given}
use Rattle.logic_meaning.specs.declared.side.Side.{Side}
use Rattle.logic_meaning.specs.declared.side.Side.TheVariants.{Lower, Upper}
use Rattle.logic_meaning.specs.Atoms.{atoms_of}
use Rattle.logic_meaning.specs.IntegersPoints.{signed}
use Rattle.logic_meaning.specs.FieldsSubstitution.{IsFieldPlace}
use Rattle.elimination_theory.specs.FieldsSamples.{IsFieldSample}
use Rattle.logic_meaning.specs.FieldsOrder.{IsLess}
use Rattle.elimination_theory.proofs.FieldsSample.{twice}
use Rattle.elimination_theory.proofs.Fractions.{at_most_less, less_at_most}
use Rattle.logic_meaning.specs.PutIn.{tree_put, tree_put_within}
use Rattle.logic_meaning.specs.Calculated.{critical_values, criticals, least_past, form_value, half, just_past, below_all, seen, value_beside, value_beyond, beside_form, beyond_criticals, place_value}
use Rattle.sample_reference.proofs.SamePoints.{some_same, none_some, some_then, abs_positive, abs_above}
use Rattle.sample_reference.proofs.Leasts.{Less, AtMost, next_above, none_above, first_of, none_at_all}
use Rattle.sample_reference.proofs.Critical.{Alone}
use Rattle.sample_reference.proofs.Sides.{AreCritical, CriticalOn, NoneOf, PastOf, BelowOf, IsBeside, IsBeyond, signed_times, seen_lowest, seen_back, criticals_on, beside_from, beyond_from}

-- ---- one step of the fraction rule

pub sum_is : (a b r : Frac) → IsProper a → IsProper b → sum_step a b ≡ Some r → IsExactSum a b r
sum_is a b r h k e = subst (λ o. MatchOption o (SumPasses a b) (IsExactSum a b)) e (sum_step_gives a b h k)

pub product_is : (a b r : Frac) → IsProper a → IsProper b → product_step a b ≡ Some r → IsExactProduct a b r
product_is a b r h k e = subst (λ o. MatchOption o (ProductPasses a b) (IsExactProduct a b)) e (product_step_gives a b h k)

pub value_is : (e : Form) (p : Point ℕ) (v : ℤ) → value_steps e p.at (pos p.below) ≡ Some v → v ≡ value e p
unfolding value
value_is e p v h = subst (λ (o : Option ℤ). MatchOption o (ValuePasses e p.at (pos p.below)) (λ n. n ≡ total e.terms p.at +ℤ e.constant *ℤ pos p.below)) h (value_steps_given e p.at (pos p.below))

over_both : (a n l v d b m : ℤ) → pos 0 <ℤ l → n *ℤ b ≡ v *ℤ l → a *ℤ (l *ℤ d) ≡ (n *ℤ pos 1) *ℤ m → (a *ℤ b) *ℤ d ≡ v *ℤ m
over_both a n l v d b m h e f =
    let g = simp ring at (ap (λ z. m *ℤ z) e) in
    let k = simp ring at (ap (λ z. b *ℤ z) (f ∙ ap (λ z. z *ℤ m) (mul_one n))) in
    let both : l *ℤ ((a *ℤ b) *ℤ d) ≡ l *ℤ (v *ℤ m) = simp ring (omega (arith, ints, g, k)) in
    cancel_positive l h both

-- v over d and over the denominator of the point, in lowest terms
pub record IsFormValue (v : ℤ) (d : ℕ) (p : Point ℕ) (a : Frac) : Type 0 where
  pub proper : IsProper a
  pub lowest_terms : IsLowest a
  pub same : (a.numerator *ℤ pos p.below) *ℤ pos d ≡ v *ℤ a.denominator

pub form_value_is : (e : Form) (d : ℕ) (p : Point ℕ) (a : Frac) → 0 < d → 0 < p.below → form_value e d p ≡ Some a → IsFormValue (value e p) d p a
form_value_is e d p a pd pb h =
    some_then (value_steps e p.at (pos p.below)) _ a h (λ v f g.
    let b : pos 0 <ℤ pos p.below = omega (arith, ints) in
    let q : pos 0 <ℤ pos d = omega (arith, ints) in
    let low = lowest v (pos p.below) in
    let is = product_is low (record { numerator = pos 1; denominator = pos d }) a (lowest_proper v (pos p.below) b) q g in
    record {
      proper = is.proper;
      lowest_terms = is.lowest_terms;
      same = over_both a.numerator low.numerator low.denominator (value e p) (pos d) (pos p.below) a.denominator (lowest_proper v (pos p.below) b)
          (lowest_value v (pos p.below) b ∙ ap (λ z. z *ℤ low.denominator) (value_is e p v f)) is.value;
    })

-- ---- arithmetic

halved : (a s sd en ed wn wd ad : ℤ) → pos 0 <ℤ sd → s *ℤ (ed *ℤ wd) ≡ (en *ℤ wd +ℤ wn *ℤ ed) *ℤ sd → a *ℤ (sd *ℤ pos 2) ≡ (s *ℤ pos 1) *ℤ ad → a *ℤ (pos 2 *ℤ (ed *ℤ wd)) ≡ (en *ℤ wd +ℤ wn *ℤ ed) *ℤ ad
halved a s sd en ed wn wd ad h e f =
    let g = simp ring at (ap (λ z. ad *ℤ z) e) in
    let k = simp ring at (ap (λ z. (ed *ℤ wd) *ℤ z) (f ∙ ap (λ z. z *ℤ ad) (mul_one s))) in
    let both : sd *ℤ (a *ℤ (pos 2 *ℤ (ed *ℤ wd))) ≡ sd *ℤ ((en *ℤ wd +ℤ wn *ℤ ed) *ℤ ad) = simp ring (omega (arith, ints, g, k)) in
    cancel_positive sd h both

half_way : (a en ed wn wd ad v d b : ℤ) → pos 0 <ℤ ed → (en *ℤ b) *ℤ d ≡ v *ℤ ed → a *ℤ (pos 2 *ℤ (ed *ℤ wd)) ≡ (en *ℤ wd +ℤ wn *ℤ ed) *ℤ ad → (a *ℤ b) *ℤ (pos 2 *ℤ (d *ℤ wd)) ≡ (v *ℤ wd +ℤ (wn *ℤ b) *ℤ d) *ℤ ad
half_way a en ed wn wd ad v d b h e f =
    let g = simp ring at (ap (λ z. (wd *ℤ ad) *ℤ z) e) in
    let k = simp ring at (ap (λ z. (b *ℤ d) *ℤ z) f) in
    let both : ed *ℤ ((a *ℤ b) *ℤ (pos 2 *ℤ (d *ℤ wd))) ≡ ed *ℤ ((v *ℤ wd +ℤ (wn *ℤ b) *ℤ d) *ℤ ad) = simp ring (omega (arith, ints, g, k)) in
    cancel_positive ed h both

one_more : (a en ed ad v d b : ℤ) → pos 0 <ℤ ed → (en *ℤ b) *ℤ d ≡ v *ℤ ed → a *ℤ (ed *ℤ pos 1) ≡ (en *ℤ pos 1 +ℤ pos 1 *ℤ ed) *ℤ ad → (a *ℤ b) *ℤ d ≡ (v +ℤ d *ℤ b) *ℤ ad
one_more a en ed ad v d b h e f =
    let f2 : a *ℤ ed ≡ (en +ℤ ed) *ℤ ad = sym (ap (λ z. a *ℤ z) (mul_one ed)) ∙ f ∙ ap (λ z. (z +ℤ pos 1 *ℤ ed) *ℤ ad) (mul_one en) ∙ ap (λ z. (en +ℤ z) *ℤ ad) (one_mul ed) in
    let g = simp ring at (ap (λ z. ad *ℤ z) e) in
    let k = simp ring at (ap (λ z. (b *ℤ d) *ℤ z) f2) in
    let both : ed *ℤ ((a *ℤ b) *ℤ d) ≡ ed *ℤ ((v +ℤ d *ℤ b) *ℤ ad) = simp ring (omega (arith, ints, g, k)) in
    cancel_positive ed h both

one_less : (a wn wd ad b : ℤ) → a *ℤ (wd *ℤ pos 1) ≡ (wn *ℤ pos 1 +ℤ negsuc 0 *ℤ wd) *ℤ ad → (a *ℤ b) *ℤ wd ≡ (wn *ℤ b -ℤ wd *ℤ b) *ℤ ad
one_less a wn wd ad b f =
    let n : negsuc 0 *ℤ wd ≡ neg_ℤ wd = omega (arith, ints) in
    let f2 : a *ℤ wd ≡ (wn +ℤ neg_ℤ wd) *ℤ ad = sym (ap (λ z. a *ℤ z) (mul_one wd)) ∙ f ∙ ap (λ z. (z +ℤ negsuc 0 *ℤ wd) *ℤ ad) (mul_one wn) ∙ ap (λ z. (wn +ℤ z) *ℤ ad) n in
    let k = simp ring at (ap (λ z. b *ℤ z) f2) in
    let m : wn *ℤ b -ℤ wd *ℤ b ≡ (wn +ℤ neg_ℤ wd) *ℤ b = simp ring (omega (arith, ints)) in
    ap (λ z. z) (simp ring (omega (arith, ints, k))) ∙ ap (λ z. z *ℤ ad) (sym m)

-- the same factor on both sides
unscaled : (b a d c f : ℤ) → pos 0 <ℤ b → ((a *ℤ b) *ℤ f) <ℤ ((c *ℤ b) *ℤ d) → (a *ℤ f) <ℤ (c *ℤ d)
unscaled b a d c f h k = cancel_less b h (subst₂ (λ y z. y <ℤ z) (front a b f) (front c b d) k)
  where
    front : (a b f : ℤ) → (a *ℤ b) *ℤ f ≡ b *ℤ (a *ℤ f)
    front a b f = simp ring

scaled_less : (b a d c f : ℤ) → pos 0 <ℤ b → (a *ℤ f) <ℤ (c *ℤ d) → ((a *ℤ b) *ℤ f) <ℤ ((c *ℤ b) *ℤ d)
scaled_less b a d c f h k = subst₂ (λ y z. y <ℤ z) (front a b f) (front c b d) (mul_less b h k)
  where
    front : (a b f : ℤ) → b *ℤ (a *ℤ f) ≡ (a *ℤ b) *ℤ f
    front a b f = simp ring

equal_at_most : (a b : ℤ) → a ≡ b → a ≤ℤ b
equal_at_most a b e = omega (arith, ints)

-- ---- each place

module _ (x : ℕ) (p : Point ℕ) (C : ℤ → ℕ → Type 0) (values : List Frac) (pb : 0 < p.below) (are : AreCritical x p C values) where
  below_positive : pos 0 <ℤ pos p.below
  below_positive = omega (arith, ints)

  -- what has no critical value among the fractions has none
  module _ (P : ℤ → ℕ → Type 0) where
    none_such : ((w : Frac) (i : ℤ) (l : ℕ) → 0 < l → Among values w → IsProper w → (w.numerator *ℤ pos p.below) *ℤ pos l ≡ i *ℤ w.denominator → P i l → ⊥) → NoneOf C P
    none_such h i l pl q critical =
        let r = are.found i l critical in
        h r.critical i l pl r.among r.proper r.same q

  -- no critical value lies before the least one
  least_before : (w v : Frac) (i : ℤ) (l : ℕ) → 0 < l → IsProper w → IsProper v → (v.numerator *ℤ pos p.below) *ℤ pos l ≡ i *ℤ v.denominator → AtMost w v → (i *ℤ w.denominator) <ℤ ((w.numerator *ℤ pos p.below) *ℤ pos l) → ⊥
  least_before w v i l pl pw pv same first less =
      let ql : pos 0 <ℤ pos l = omega (arith, ints) in
      let both = at_most_less (v.numerator *ℤ pos p.below) v.denominator i (pos l) (w.numerator *ℤ pos p.below) w.denominator pv ql pw (equal_at_most _ _ same) less in
      let under = unscaled (pos p.below) v.numerator v.denominator w.numerator w.denominator below_positive both in
      absurd (omega (arith, ints))

  module _ (v : ℤ) (d : ℕ) (pd : 0 < d) (a : Frac) (is : IsFormValue v d p a) where
    -- a critical value above the form's value is above it as a fraction
    above_too : (w : Frac) (i : ℤ) (l : ℕ) → 0 < l → IsProper w → (w.numerator *ℤ pos p.below) *ℤ pos l ≡ i *ℤ w.denominator → IsLess v d i l → Less a w
    above_too w i l pl pw same less =
        let ql : pos 0 <ℤ pos l = omega (arith, ints) in
        let qd : pos 0 <ℤ pos d = omega (arith, ints) in
        let first = at_most_less (a.numerator *ℤ pos p.below) a.denominator v (pos d) i (pos l) is.proper qd ql (equal_at_most _ _ is.same) less in
        let both = less_at_most (a.numerator *ℤ pos p.below) a.denominator i (pos l) (w.numerator *ℤ pos p.below) w.denominator is.proper ql pw first (equal_at_most _ _ (sym same)) in
        unscaled (pos p.below) a.numerator a.denominator w.numerator w.denominator below_positive both

    halfway : (r w s : Frac) → IsProper r → IsProper w → IsExactSum a w s → IsExactProduct s half r → (r.numerator *ℤ pos p.below) *ℤ pos (2 * (d * unsigned_abs w.denominator)) ≡ (v *ℤ pos (unsigned_abs w.denominator) +ℤ (w.numerator *ℤ pos p.below) *ℤ pos d) *ℤ pos (unsigned_abs r.denominator)
    halfway r w s pr pw sum product =
        let wd = abs_positive w.denominator pw in
        let rd = abs_positive r.denominator pr in
        subst₂ (λ y z. (r.numerator *ℤ pos p.below) *ℤ y ≡ (v *ℤ pos (unsigned_abs w.denominator) +ℤ (w.numerator *ℤ pos p.below) *ℤ pos d) *ℤ z) (sym (twice d (unsigned_abs w.denominator))) (sym rd)
        (subst (λ z. (r.numerator *ℤ pos p.below) *ℤ (pos 2 *ℤ (pos d *ℤ z)) ≡ (v *ℤ z +ℤ (w.numerator *ℤ pos p.below) *ℤ pos d) *ℤ r.denominator) (sym wd)
        (half_way r.numerator a.numerator a.denominator w.numerator w.denominator r.denominator v (pos d) (pos p.below) is.proper is.same
        (halved r.numerator s.numerator s.denominator a.numerator a.denominator w.numerator w.denominator r.denominator sum.proper sum.value product.value)))

    past_sample : (r : Frac) → just_past a (least_past (Some a) values) ≡ Some r → IsProper r × IsLowest r × PastOf C p.below v d (r.numerator *ℤ pos p.below) (unsigned_abs r.denominator)
    past_sample r h = go (least_past (Some a) values) refl h
      where
        go : (o : Option Frac) → least_past (Some a) values ≡ o → just_past a o ≡ Some r → IsProper r × IsLowest r × PastOf C p.below v d (r.numerator *ℤ pos p.below) (unsigned_abs r.denominator)
        go None f g =
            let s = sum_is a (whole_frac (pos 1)) r is.proper (omega (arith, ints)) g in (
              s.proper,
              s.lowest_terms,
              inr (
                none_such (λ i l. IsLess v d i l) (λ w i l pl m pw same q. none_above a values w f m (above_too w i l pl pw same q)),
                subst₂ (λ y z. (r.numerator *ℤ pos p.below) *ℤ pos d ≡ (v +ℤ y) *ℤ z) (sym (pos_mul d p.below)) (sym (abs_positive r.denominator s.proper))
                    (one_more r.numerator a.numerator a.denominator r.denominator v (pos d) (pos p.below) is.proper is.same s.value),
              ),
            )
        go (Some w) f g = some_then (sum_step a w) _ r g (λ s formed y.
            let n = next_above a values w are.proper f in
            let sum = sum_is a w s is.proper n.proper formed in
            let product = product_is s half r sum.proper (omega (arith, ints)) y in
            let wd = abs_positive w.denominator n.proper in
            let qd : pos 0 <ℤ pos d = omega (arith, ints) in (
              product.proper,
              product.lowest_terms,
              inl (
                w.numerator *ℤ pos p.below,
                unsigned_abs w.denominator,
                abs_above w.denominator n.proper,
                are.there w n.among,
                subst (λ z. (v *ℤ z) <ℤ ((w.numerator *ℤ pos p.below) *ℤ pos d)) (sym wd)
                    (at_most_less v (pos d) (a.numerator *ℤ pos p.below) a.denominator (w.numerator *ℤ pos p.below) w.denominator qd is.proper n.proper (equal_at_most _ _ (sym is.same)) (scaled_less (pos p.below) a.numerator a.denominator w.numerator w.denominator below_positive n.above)),
                none_such (λ i l. IsLess v d i l × IsLess i l (w.numerator *ℤ pos p.below) (unsigned_abs w.denominator)) (λ u i l pl m pu same q.
                    least_before w u i l pl n.proper pu same (n.first u m (above_too u i l pl pu same q.0)) (subst (λ z. (i *ℤ z) <ℤ ((w.numerator *ℤ pos p.below) *ℤ pos l)) wd q.1)),
                halfway r w s product.proper n.proper sum product,
              ),
            ))

  below_sample : (r : Frac) → below_all (least_past None values) ≡ Some r → IsProper r × IsLowest r × BelowOf C p.below (r.numerator *ℤ pos p.below) (unsigned_abs r.denominator)
  below_sample r h = go (least_past None values) refl h
    where
      go : (o : Option Frac) → least_past None values ≡ o → below_all o ≡ Some r → IsProper r × IsLowest r × BelowOf C p.below (r.numerator *ℤ pos p.below) (unsigned_abs r.denominator)
      go None f g =
          let same = some_same (whole_frac (pos 0)) r g in
          subst (λ (q : Frac). IsProper q × IsLowest q × BelowOf C p.below (q.numerator *ℤ pos p.below) (unsigned_abs q.denominator)) same (
            omega (arith, ints),
            whole_lowest (pos 0),
            inr (none_such (λ i l. Unit {0}) (λ w i l pl m pw e q. none_at_all values w f m), zero_mul (pos p.below)),
          )
      go (Some w) f g =
          let n = first_of values w are.proper f in
          let s = sum_is w (whole_frac (negsuc 0)) r n.proper (omega (arith, ints)) g in
          let wd = abs_positive w.denominator n.proper in (
            s.proper,
            s.lowest_terms,
            inl (
              w.numerator *ℤ pos p.below,
              unsigned_abs w.denominator,
              abs_above w.denominator n.proper,
              are.there w n.among,
              none_such (λ i l. IsLess i l (w.numerator *ℤ pos p.below) (unsigned_abs w.denominator)) (λ v i l pl m pv same q.
                  least_before w v i l pl n.proper pv same (n.first v m) (subst (λ z. (i *ℤ z) <ℤ ((w.numerator *ℤ pos p.below) *ℤ pos l)) wd q)),
              subst₂ (λ y z. (r.numerator *ℤ pos p.below) *ℤ pos (unsigned_abs w.denominator) ≡ ((w.numerator *ℤ pos p.below) -ℤ y) *ℤ z) (sym (pos_mul (unsigned_abs w.denominator) p.below)) (sym (abs_positive r.denominator s.proper))
                  (subst (λ z. (r.numerator *ℤ pos p.below) *ℤ z ≡ ((w.numerator *ℤ pos p.below) -ℤ z *ℤ pos p.below) *ℤ r.denominator) (sym wd)
                  (one_less r.numerator w.numerator w.denominator r.denominator (pos p.below) s.value)),
            ),
          )

-- ---- all places

-- the critical values where they are there
pub criticals_are : (c : Context) (x : ℕ) (f : Tree) (p : Point ℕ) (values : List Frac) → criticals c x f p ≡ Some values → critical_values x (atoms_of (tree_put c p (x ∷ []) f)) ≡ values
criticals_are c x f p values h = go (tree_put_within c p (x ∷ []) f) h
  where
    go : (b : Bool) → (if b then Some (critical_values x (atoms_of (tree_put c p (x ∷ []) f))) else None) ≡ Some values → critical_values x (atoms_of (tree_put c p (x ∷ []) f)) ≡ values
    go true e = some_same _ values e
    go false e = none_some values e

form_seen : (side : Side) (v : ℤ) (d : ℕ) (p : Point ℕ) (a : Frac) → IsFormValue v d p a → IsFormValue (signed side v) d p (seen side a)
form_seen side v d p a h =
    record { proper = h.proper; lowest_terms = seen_lowest side a h.lowest_terms; same = over_seen side a.numerator (pos p.below) (pos d) v a.denominator h.same }
  where
    over_seen : (side : Side) (n b d v m : ℤ) → (n *ℤ b) *ℤ d ≡ v *ℤ m → (signed side n *ℤ b) *ℤ d ≡ signed side v *ℤ m
    over_seen side n b d v m e = ap (λ z. z *ℤ d) (signed_times side n b) ∙ signed_times side (n *ℤ b) d ∙ ap (signed side) e ∙ sym (signed_times side v m)

module _ (side : Side) (x : ℕ) (p : Point ℕ) (t : Tree) (pb : 0 < p.below) (inside : EachOf (AtomIn Fields) (atoms_of t)) (alone : EachOf (λ a. Alone x (form_of a)) (atoms_of t)) where
  abbrev seen_values : List Frac
  seen_values = map (seen side) (critical_values x (atoms_of t))

  beside_sample : (v : ℤ) (d : ℕ) (a r : Frac) → 0 < d → IsFormValue v d p a → value_beside side a (critical_values x (atoms_of t)) ≡ Some r →
      IsProper r × IsLowest r × IsBeside x t p side v d (r.numerator *ℤ pos p.below) (unsigned_abs r.denominator)
  beside_sample v d a r pd is h =
      let s = seen_back side (just_past (seen side a) (least_past (Some (seen side a)) seen_values)) r h in
      let g = past_sample x p (CriticalOn side x t p) seen_values pb (criticals_on side x p t inside alone) (signed side v) d pd (seen side a) (form_seen side v d p a is) s.found s.is in
      subst (λ (q : Frac). IsProper q × IsLowest q × IsBeside x t p side v d (q.numerator *ℤ pos p.below) (unsigned_abs q.denominator)) s.back (
        g.0,
        seen_lowest side s.found g.1,
        subst (λ z. IsBeside x t p side v d z (unsigned_abs s.found.denominator)) (sym (signed_times side s.found.numerator (pos p.below)))
            (beside_from x t p side v d (s.found.numerator *ℤ pos p.below) (unsigned_abs s.found.denominator) g.2),
      )

  beyond_sample : (r : Frac) → value_beyond side (critical_values x (atoms_of t)) ≡ Some r → IsProper r × IsLowest r × IsBeyond x t p side (r.numerator *ℤ pos p.below) (unsigned_abs r.denominator)
  beyond_sample r h =
      let s = seen_back side (below_all (least_past None seen_values)) r h in
      let g = below_sample x p (CriticalOn side x t p) seen_values pb (criticals_on side x p t inside alone) s.found s.is in
      subst (λ (q : Frac). IsProper q × IsLowest q × IsBeyond x t p side (q.numerator *ℤ pos p.below) (unsigned_abs q.denominator)) s.back (
        g.0,
        seen_lowest side s.found g.1,
        subst (λ z. IsBeyond x t p side z (unsigned_abs s.found.denominator)) (sym (signed_times side s.found.numerator (pos p.below)))
            (beyond_from x t p side (s.found.numerator *ℤ pos p.below) (unsigned_abs s.found.denominator) g.2),
      )

-- the sample beside a form's value, from the critical values where they are there
beside_calculated : (side : Side) (x : ℕ) (e : Form) (d : ℕ) (f : Tree) (p : Point ℕ) (r : Frac) → 0 < p.below → 0 < d →
    EachOf (AtomIn Fields) (atoms_of (tree_put Fields p (x ∷ []) f)) → EachOf (λ a. Alone x (form_of a)) (atoms_of (tree_put Fields p (x ∷ []) f)) →
    beside_form Fields side x e d f p ≡ Some r →
    IsProper r × IsLowest r × IsBeside x (tree_put Fields p (x ∷ []) f) p side (value e p) d (r.numerator *ℤ pos p.below) (unsigned_abs r.denominator)
beside_calculated side x e d f p r pb pd inside alone h =
    some_then (form_value e d p) _ r h (λ a g k.
    some_then (criticals Fields x f p) _ r k (λ values m n.
    beside_sample side x p (tree_put Fields p (x ∷ []) f) pb inside alone (value e p) d a r pd (form_value_is e d p a pd pb g)
    (ap (value_beside side a) (criticals_are Fields x f p values m) ∙ n)))

beyond_calculated : (side : Side) (x : ℕ) (f : Tree) (p : Point ℕ) (r : Frac) → 0 < p.below →
    EachOf (AtomIn Fields) (atoms_of (tree_put Fields p (x ∷ []) f)) → EachOf (λ a. Alone x (form_of a)) (atoms_of (tree_put Fields p (x ∷ []) f)) →
    beyond_criticals Fields side x f p ≡ Some r →
    IsProper r × IsLowest r × IsBeyond x (tree_put Fields p (x ∷ []) f) p side (r.numerator *ℤ pos p.below) (unsigned_abs r.denominator)
beyond_calculated side x f p r pb inside alone h =
    some_then (criticals Fields x f p) _ r h (λ values m n.
    beyond_sample side x p (tree_put Fields p (x ∷ []) f) pb inside alone r (ap (value_beyond side) (criticals_are Fields x f p values m) ∙ n))

pub field_sample : (x : ℕ) (s : Place) (f : Tree) (p : Point ℕ) (r : Frac) → 0 < p.below → IsFieldPlace s →
    EachOf (AtomIn Fields) (atoms_of (tree_put Fields p (x ∷ []) f)) → EachOf (λ a. Alone x (form_of a)) (atoms_of (tree_put Fields p (x ∷ []) f)) →
    place_value Fields x s f p ≡ Some r → IsProper r × IsLowest r × IsFieldSample x (tree_put Fields p (x ∷ []) f) p s (r.numerator *ℤ pos p.below) (unsigned_abs r.denominator)
field_sample x (Exact e d) f p r pb place inside alone h =
    let is = form_value_is e d p r place pb h in
    (is.proper, is.lowest_terms, subst (λ z. (r.numerator *ℤ pos p.below) *ℤ pos d ≡ value e p *ℤ z) (sym (abs_positive r.denominator is.proper)) is.same)
field_sample x (AboveBy e d) f p r pb place inside alone h = beside_calculated Lower x e d f p r pb place inside alone h
field_sample x (BelowBy e d) f p r pb place inside alone h = beside_calculated Upper x e d f p r pb place inside alone h
field_sample x MinusInfinity f p r pb place inside alone h = beyond_calculated Lower x f p r pb inside alone h
field_sample x PlusInfinity f p r pb place inside alone h = beyond_calculated Upper x f p r pb inside alone h
field_sample x (Periodic j q) f p r pb place inside alone h = absurd place
