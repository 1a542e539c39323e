-- Fractions that bound a number from below and from above, and a number between them.
use Rattle.std.proofs.Common.{◌≡◌, Bool, true, false, List, [], ◌∷◌, map, Option, Some, None, inl, inr, refl, sym, ap, ◌∙◌, subst, arith}
use Rattle.std.proofs.Math.IntN.{ℤ, pos, neg_ℤ, negsuc, ◌+ℤ◌, ◌*ℤ◌}
use Rattle.std.specs.Prelude.{◌<ℤ◌, ◌≤ℤ◌, option_map}
use Rattle.std.proofs.lemmas.Int.{ints}
use Rattle.exact_numbers.specs.Frac.{Frac, IsProper, IsLowest, SameValue, whole_frac, true_sum, true_product, negated, sum_step, product_step}
use Rattle.exact_numbers.proofs.Ring.{ring, add_mul, neg_mul, mul_one, one_mul}
use Rattle.exact_numbers.proofs.Order.{mul_positive}
use Rattle.exact_numbers.proofs.FractionRule.{whole_lowest}
use Rattle.logic_meaning.specs.Some.{Among, EachOf}
use Rattle.elimination_theory.proofs.Fractions.{at_most_less, less_at_most}
use Rattle.logic_meaning.specs.Calculated.{half}
use Rattle.sample_reference.proofs.Leasts.{Less, AtMost, first_of, none_at_all}
use Rattle.sample_reference.proofs.FieldsValue.{sum_is, product_is}
use Rattle.sample_reference.proofs.SamePoints.{some_same, none_some, some_then}
use Rattle.linear_theory.specs.RowsHold.{Holds}
use Rattle.logic_meaning.specs.Bounds.{least, greatest, between}
use Rattle.linear_theory.proofs.Signs.{holds_sum}

-- the first is at most the second, or below it
abbrev pub Before : Bool → Frac → Frac → Type 0
Before s a b = Holds s (a.numerator *ℤ b.denominator +ℤ neg_ℤ (b.numerator *ℤ a.denominator))

-- v is half the sum of l and u, which is s
pub record IsMiddle (l u v : Frac) : Type 0 where
  pub sum : Frac
  pub proper : IsProper sum
  pub added : SameValue sum (true_sum l u)
  pub halved : SameValue v (true_product sum half)

-- twice v is the sum
twice_middle : (ln ld un ud sn sd vn vd : ℤ) → sn *ℤ (ld *ℤ ud) ≡ (ln *ℤ ud +ℤ un *ℤ ld) *ℤ sd → vn *ℤ (sd *ℤ pos 2) ≡ (sn *ℤ pos 1) *ℤ vd →
    (vn *ℤ (sd +ℤ sd)) *ℤ (ld *ℤ ud) ≡ ((ln *ℤ ud +ℤ un *ℤ ld) *ℤ sd) *ℤ vd
twice_middle ln ld un ud sn sd vn vd e f =
    let two : sd +ℤ sd ≡ sd *ℤ pos 2 = omega (arith, ints) in
    let h : vn *ℤ (sd +ℤ sd) ≡ sn *ℤ vd = ap (λ z. vn *ℤ z) two ∙ f ∙ ap (λ z. z *ℤ vd) (mul_one sn) in
    let g = simp ring at (ap (λ z. vd *ℤ z) e) in
    let k = simp ring at (ap (λ z. (ld *ℤ ud) *ℤ z) h) in
    simp ring (omega (arith, ints, g, k))

after_lower : (an ad ln ld un ud sd vn vd : ℤ) → (vn *ℤ (sd +ℤ sd)) *ℤ (ld *ℤ ud) ≡ ((ln *ℤ ud +ℤ un *ℤ ld) *ℤ sd) *ℤ vd →
    ((sd +ℤ sd) *ℤ (ld *ℤ ud)) *ℤ (an *ℤ vd +ℤ neg_ℤ (vn *ℤ ad))
    ≡ (sd *ℤ (vd *ℤ ud)) *ℤ (an *ℤ ld +ℤ neg_ℤ (ln *ℤ ad)) +ℤ (sd *ℤ (vd *ℤ ld)) *ℤ (an *ℤ ud +ℤ neg_ℤ (un *ℤ ad))
after_lower an ad ln ld un ud sd vn vd e =
    let g = simp ring at (ap (λ z. ad *ℤ z) e) in
    simp ring (omega (arith, ints, g))

before_upper : (bn bd ln ld un ud sd vn vd : ℤ) → (vn *ℤ (sd +ℤ sd)) *ℤ (ld *ℤ ud) ≡ ((ln *ℤ ud +ℤ un *ℤ ld) *ℤ sd) *ℤ vd →
    ((sd +ℤ sd) *ℤ (ld *ℤ ud)) *ℤ (vn *ℤ bd +ℤ neg_ℤ (bn *ℤ vd))
    ≡ (sd *ℤ (vd *ℤ ld)) *ℤ (un *ℤ bd +ℤ neg_ℤ (bn *ℤ ud)) +ℤ (sd *ℤ (vd *ℤ ud)) *ℤ (ln *ℤ bd +ℤ neg_ℤ (bn *ℤ ld))
before_upper bn bd ln ld un ud sd vn vd e =
    let g = simp ring at (ap (λ z. bd *ℤ z) e) in
    simp ring (omega (arith, ints, g))

three : {a b c : ℤ} → pos 0 <ℤ a → pos 0 <ℤ b → pos 0 <ℤ c → pos 0 <ℤ (a *ℤ (b *ℤ c))
three pa pb pc = mul_positive pa (mul_positive pb pc)

doubled : {a : ℤ} → pos 0 <ℤ a → pos 0 <ℤ (a +ℤ a)
doubled {a} h = omega (arith, ints)

at_most_before : (a b : Frac) → AtMost a b → (a.numerator *ℤ b.denominator +ℤ neg_ℤ (b.numerator *ℤ a.denominator)) ≤ℤ pos 0
at_most_before a b h = omega (arith, ints)

less_before : (s : Bool) (a b : Frac) → Less a b → Before s a b
less_before true a b h = omega (arith, ints)
less_before false a b h = omega (arith, ints)

-- what is at most the lower one, and before the upper one, is before the middle
middle_after : (s : Bool) (a l u v : Frac) → IsProper l → IsProper u → IsProper v → IsMiddle l u v → AtMost a l → Before s a u → Before s a v
middle_after s a l u v pl pu pv m h k =
    holds_sum s _ _ _ _ _ _ (three m.proper pv pu) (three m.proper pv pl) (mul_positive (doubled m.proper) (mul_positive pl pu))
    (after_lower a.numerator a.denominator l.numerator l.denominator u.numerator u.denominator m.sum.denominator v.numerator v.denominator
    (twice_middle l.numerator l.denominator u.numerator u.denominator m.sum.numerator m.sum.denominator v.numerator v.denominator m.added m.halved))
    (at_most_before a l h) k

-- and the middle is before what the upper one is at most, and the lower one is before
middle_before : (s : Bool) (b l u v : Frac) → IsProper l → IsProper u → IsProper v → IsMiddle l u v → AtMost u b → Before s l b → Before s v b
middle_before s b l u v pl pu pv m h k =
    holds_sum s _ _ _ _ _ _ (three m.proper pv pl) (three m.proper pv pu) (mul_positive (doubled m.proper) (mul_positive pl pu))
    (before_upper b.numerator b.denominator l.numerator l.denominator u.numerator u.denominator m.sum.denominator v.numerator v.denominator
    (twice_middle l.numerator l.denominator u.numerator u.denominator m.sum.numerator m.sum.denominator v.numerator v.denominator m.added m.halved))
    (at_most_before u b h) k

-- ---- the greatest and the least

-- the greatest of some fractions
record IsLast (values : List Frac) (w : Frac) : Type 0 where
  among : Among values w
  proper : IsProper w
  last : (v : Frac) → Among values v → AtMost v w

twice_negated : (a : Frac) → negated (negated a) ≡ a
twice_negated a = let e : neg_ℤ (neg_ℤ a.numerator) ≡ a.numerator = omega (arith, ints) in λ i. record { numerator = e i; denominator = a.denominator }

each_negated : (values : List Frac) → EachOf IsProper values → EachOf IsProper (map negated values)
each_negated [] h = tt
each_negated (a ∷ values) h = (h.0, each_negated values h.1)

negated_among : (values : List Frac) (v : Frac) → Among values v → Among (map negated values) (negated v)
negated_among [] v m = absurd m
negated_among (a ∷ values) v (inl e) = inl (ap negated e)
negated_among (a ∷ values) v (inr m) = inr (negated_among values v m)

among_negated : (values : List Frac) (v : Frac) → Among (map negated values) v → Among values (negated v)
among_negated [] v m = absurd m
among_negated (a ∷ values) v (inl e) = inl (sym (twice_negated a) ∙ ap negated e)
among_negated (a ∷ values) v (inr m) = inr (among_negated values v m)

turned : (w v : Frac) → AtMost w (negated v) → AtMost v (negated w)
turned w v h = let e = neg_mul v.numerator w.denominator in let f = neg_mul w.numerator v.denominator in omega (arith, ints)

last_of : (values : List Frac) (w : Frac) → EachOf IsProper values → greatest values ≡ Some w → IsLast values w
last_of values w p e = go (least (map negated values)) refl e
  where
    go : (o : Option Frac) → least (map negated values) ≡ o → option_map negated o ≡ Some w → IsLast values w
    go None f g = none_some w g
    go (Some u) f g =
        let i = first_of (map negated values) u (each_negated values p) f in
        subst (IsLast values) (some_same (negated u) w g) (record {
          among = among_negated values u i.among;
          proper = i.proper;
          last = λ v m. turned u v (i.first (negated v) (negated_among values v m));
        })

none_last : (values : List Frac) (v : Frac) → greatest values ≡ None → ¬ (Among values v)
none_last values v e m = go (least (map negated values)) refl e
  where
    go : (o : Option Frac) → least (map negated values) ≡ o → option_map negated o ≡ None → ⊥
    go None f g = none_at_all (map negated values) (negated v) f (negated_among values v m)
    go (Some u) f g = none_some (negated u) (sym g)

-- ---- between

-- v is half way between the two, beyond the one that is there, or anywhere
abbrev pub IsBetween : Option Frac → Option Frac → Frac → Type 0
IsBetween (Some l) (Some u) v = IsMiddle l u v
IsBetween (Some l) None v = Less l v
IsBetween None (Some u) v = Less v u
IsBetween None None v = Unit {0}

module _ (lows highs : List Frac) (pl : EachOf IsProper lows) (ph : EachOf IsProper highs) (v : Frac) (pv : IsProper v) (b : IsBetween (greatest lows) (least highs) v) where
  -- what is one of the lower bounds, and before each upper bound, is before v
  pub fits_above : (s : Bool) (a : Frac) → IsProper a → Among lows a → ((u : Frac) → Among highs u → Before s a u) → Before s a v
  fits_above s a pa m h = go (greatest lows) (least highs) refl refl b
    where
      go : (o r : Option Frac) → greatest lows ≡ o → least highs ≡ r → IsBetween o r v → Before s a v
      go None r e f is = absurd (none_last lows a e m)
      go (Some l) (Some u) e f is =
          let i = last_of lows l pl e in
          let j = first_of highs u ph f in
          middle_after s a l u v i.proper j.proper pv is (i.last a m) (h u j.among)
      go (Some l) None e f is =
          let i = last_of lows l pl e in
          less_before s a v (at_most_less a.numerator a.denominator l.numerator l.denominator v.numerator v.denominator pa i.proper pv (i.last a m) is)

  pub fits_below : (s : Bool) (a : Frac) → IsProper a → Among highs a → ((l : Frac) → Among lows l → Before s l a) → Before s v a
  fits_below s a pa m h = go (greatest lows) (least highs) refl refl b
    where
      go : (o r : Option Frac) → greatest lows ≡ o → least highs ≡ r → IsBetween o r v → Before s v a
      go o None e f is = absurd (none_at_all highs a f m)
      go (Some l) (Some u) e f is =
          let i = last_of lows l pl e in
          let j = first_of highs u ph f in
          middle_before s a l u v i.proper j.proper pv is (j.first a m) (h l i.among)
      go None (Some u) e f is =
          let j = first_of highs u ph f in
          less_before s v a (less_at_most v.numerator v.denominator u.numerator u.denominator a.numerator a.denominator pv j.proper pa is (j.first a m))

-- ---- such a number

one_more : (ln ld vn vd : ℤ) → pos 0 <ℤ ld → pos 0 <ℤ vd → vn *ℤ (ld *ℤ pos 1) ≡ (ln *ℤ pos 1 +ℤ pos 1 *ℤ ld) *ℤ vd → (ln *ℤ vd) <ℤ (vn *ℤ ld)
one_more ln ld vn vd pl pv e =
    let f : vn *ℤ ld ≡ (ln +ℤ ld) *ℤ vd = sym (ap (λ z. vn *ℤ z) (mul_one ld)) ∙ e ∙ ap (λ z. (z +ℤ pos 1 *ℤ ld) *ℤ vd) (mul_one ln) ∙ ap (λ z. (ln +ℤ z) *ℤ vd) (one_mul ld) in
    let g = f ∙ add_mul ln ld vd in
    let m = mul_positive pl pv in
    omega (arith, ints)

one_less : (un ud vn vd : ℤ) → pos 0 <ℤ ud → pos 0 <ℤ vd → vn *ℤ (ud *ℤ pos 1) ≡ (un *ℤ pos 1 +ℤ negsuc 0 *ℤ ud) *ℤ vd → (vn *ℤ ud) <ℤ (un *ℤ vd)
one_less un ud vn vd pu pv e =
    let n : negsuc 0 *ℤ ud ≡ neg_ℤ ud = omega (arith, ints) in
    let f : vn *ℤ ud ≡ (un +ℤ neg_ℤ ud) *ℤ vd = sym (ap (λ z. vn *ℤ z) (mul_one ud)) ∙ e ∙ ap (λ z. (z +ℤ negsuc 0 *ℤ ud) *ℤ vd) (mul_one un) ∙ ap (λ z. (un +ℤ z) *ℤ vd) n in
    let g = f ∙ add_mul un (neg_ℤ ud) vd in
    let k = neg_mul ud vd in
    let m = mul_positive pu pv in
    omega (arith, ints)

-- the bound, if there is one, is a fraction
abbrev pub ProperIf : Option Frac → Type 0
ProperIf None = Unit {0}
ProperIf (Some a) = IsProper a

pub greatest_proper : (values : List Frac) → EachOf IsProper values → ProperIf (greatest values)
greatest_proper values p = go (greatest values) refl
  where
    go : (o : Option Frac) → greatest values ≡ o → ProperIf o
    go None e = tt
    go (Some w) e = (last_of values w p e).proper

pub least_proper : (values : List Frac) → EachOf IsProper values → ProperIf (least values)
least_proper values p = go (least values) refl
  where
    go : (o : Option Frac) → least values ≡ o → ProperIf o
    go None e = tt
    go (Some w) e = (first_of values w p e).proper

-- there is one, however large its numbers
pub some_between : (o r : Option Frac) → ProperIf o → ProperIf r → (v : Frac) × IsProper v × IsBetween o r v
some_between (Some l) (Some u) pl pu =
    let s = true_sum l u in
    let ps : IsProper s = mul_positive pl pu in
    (true_product s half, mul_positive ps (omega (arith, ints)), record { sum = s; proper = ps; added = refl; halved = refl })
some_between (Some l) None pl pu =
    let v = true_sum l (whole_frac (pos 1)) in
    let pv : IsProper v = mul_positive pl (omega (arith, ints)) in
    (v, pv, one_more l.numerator l.denominator v.numerator v.denominator pl pv refl)
some_between None (Some u) pl pu =
    let v = true_sum u (whole_frac (negsuc 0)) in
    let pv : IsProper v = mul_positive pu (omega (arith, ints)) in
    (v, pv, one_less u.numerator u.denominator v.numerator v.denominator pu pv refl)
some_between None None pl pu = (whole_frac (pos 0), omega (arith, ints), tt)

-- and the one that is formed is one
pub record IsFormed (o r : Option Frac) (v : Frac) : Type 0 where
  pub proper : IsProper v
  pub lowest_terms : IsLowest v
  pub is_between : IsBetween o r v

pub between_is : (o r : Option Frac) (v : Frac) → ProperIf o → ProperIf r → between o r ≡ Some v → IsFormed o r v
between_is (Some l) (Some u) v pl pu e =
    some_then (sum_step l u) (λ s. product_step s half) v e (λ s f g.
    let sum = sum_is l u s pl pu f in
    let product = product_is s half v sum.proper (omega (arith, ints)) g in
    record { proper = product.proper; lowest_terms = product.lowest_terms; is_between = record { sum = s; proper = sum.proper; added = sum.value; halved = product.value } })
between_is (Some l) None v pl pu e =
    let s = sum_is l (whole_frac (pos 1)) v pl (omega (arith, ints)) e in
    record { proper = s.proper; lowest_terms = s.lowest_terms; is_between = one_more l.numerator l.denominator v.numerator v.denominator pl s.proper s.value }
between_is None (Some u) v pl pu e =
    let s = sum_is u (whole_frac (negsuc 0)) v pu (omega (arith, ints)) e in
    record { proper = s.proper; lowest_terms = s.lowest_terms; is_between = one_less u.numerator u.denominator v.numerator v.denominator pu s.proper s.value }
between_is None None v pl pu e =
    subst (IsFormed None None) (some_same (whole_frac (pos 0)) v e) (record { proper = omega (arith, ints); lowest_terms = whole_lowest (pos 0); is_between = tt })
