-- What the sides see: samples of the upper side are those of the lower side among the negatives.
use Rattle.std.proofs.Common.{◌≡◌, ℕ, ◌*◌, ◌<◌, List, [], ◌∷◌, map, Option, Some, None, ◌⊎◌, inl, inr, refl, sym, ap, ◌∙◌, subst, arith, unsigned_abs}
use Rattle.std.proofs.Math.IntN.{ℤ, pos, neg_ℤ, ◌+ℤ◌, ◌-ℤ◌, ◌*ℤ◌}
use Rattle.std.specs.Prelude.{◌<ℤ◌, option_map}
use Rattle.std.proofs.lemmas.Int.{ints}
use Rattle.exact_numbers.specs.Frac.{Frac, IsProper, IsLowest}
use Rattle.exact_numbers.proofs.Ring.{neg_mul}
use Rattle.exact_numbers.proofs.Divisibility.{divides_neg, divides_along}
use Rattle.logic_meaning.specs.Context.{Fields}
use Rattle.logic_meaning.specs.Point.{Point}
use Rattle.logic_meaning.specs.Some.{Among, EachOf}
use Rattle.logic_meaning.specs.Atom.{form_of}
use Rattle.formula_laws.specs.TheoryAtoms.{AtomIn}
use Rattle.logic_meaning.specs.Tree.{Tree}
use Rattle.logic_meaning.specs.declared.side.Side.{Side}
use Rattle.logic_meaning.specs.declared.side.Side.TheVariants.{Lower, Upper}
use Rattle.logic_meaning.specs.Atoms.{atoms_of}
use Rattle.logic_meaning.specs.IntegersPoints.{signed}
use Rattle.elimination_theory.specs.FieldsSamples.{IsCritical, IsHalfway, IsJustPast, IsJustShort, IsBelowAll, IsAboveAll}
use Rattle.logic_meaning.specs.FieldsOrder.{IsLess}
use Rattle.elimination_theory.proofs.IntegerSides.{signed_signed}
use Rattle.elimination_theory.proofs.SomeListed.{some_map, some_mapped, some_of_mapped}
use Rattle.logic_meaning.specs.Calculated.{critical_values, seen}
use Rattle.sample_reference.proofs.SamePoints.{some_same, none_some}
use Rattle.sample_reference.proofs.Critical.{Alone, ValueAt, roots_proper, from_atom, zero_at_roots, value_at_zero}

pub neg_neg : (z : ℤ) → neg_ℤ (neg_ℤ z) ≡ z
neg_neg z = omega (arith, ints)

pub signed_times : (side : Side) (a b : ℤ) → signed side a *ℤ b ≡ signed side (a *ℤ b)
signed_times Lower a b = refl
signed_times Upper a b = neg_mul a b

-- ---- fractions

pub seen_lowest : (side : Side) (a : Frac) → IsLowest a → IsLowest (seen side a)
seen_lowest Lower a h = h
seen_lowest Upper a h = record { not_negative = h.not_negative; left = divides_neg h.left; right = h.right; greatest = λ d y z. h.greatest d (divides_along (neg_neg a.numerator) (divides_neg y)) z }

pub seen_seen : (side : Side) (a : Frac) → seen side (seen side a) ≡ a
seen_seen side a = ap (λ n. let r : Frac = record { numerator = n; denominator = a.denominator } in r) (signed_signed side a.numerator)

pub among_seen : (side : Side) (values : List Frac) (w : Frac) → Among (map (seen side) values) w → Among values (seen side w)
among_seen side values w m =
    some_map (λ v. seen side v ≡ w) (λ v. v ≡ seen side w) values (λ v e. sym (seen_seen side v) ∙ ap (seen side) e) (some_of_mapped (λ v. v ≡ w) (seen side) values m)

pub seen_among : (side : Side) (values : List Frac) (w : Frac) → Among values w → Among (map (seen side) values) (seen side w)
seen_among side values w m = some_mapped (λ v. v ≡ seen side w) (seen side) values (some_map (λ v. v ≡ w) (λ v. seen side v ≡ seen side w) values (λ v e. ap (seen side) e) m)

pub each_seen : (side : Side) (values : List Frac) → EachOf IsProper values → EachOf IsProper (map (seen side) values)
each_seen side [] h = tt
each_seen side (v ∷ values) h = (h.0, each_seen side values h.1)

-- what was found, and is seen as r
pub record SeenBack (side : Side) (o : Option Frac) (r : Frac) : Type 0 where
  pub found : Frac
  pub is : o ≡ Some found
  pub back : seen side found ≡ r

pub seen_back : (side : Side) (o : Option Frac) (r : Frac) → option_map (seen side) o ≡ Some r → SeenBack side o r
seen_back side None r e = none_some r e
seen_back side (Some a) r e = record { found = a; is = refl; back = some_same (seen side a) r e }

-- ---- critical values

-- these fractions are the values with C, over the denominator of the point
pub record AreCritical (x : ℕ) (p : Point ℕ) (C : ℤ → ℕ → Type 0) (values : List Frac) : Type 0 where
  pub proper : EachOf IsProper values
  pub there : (w : Frac) → Among values w → C (w.numerator *ℤ pos p.below) (unsigned_abs w.denominator)
  pub found : (i : ℤ) (l : ℕ) → C i l → ValueAt x p i l values

-- i/l is critical as the side sees it
abbrev pub CriticalOn : Side → ℕ → Tree → Point ℕ → ℤ → ℕ → Type 0
CriticalOn side x t p i l = IsCritical x t p (signed side i) l

same_on : (side : Side) (n b l i d : ℤ) → (n *ℤ b) *ℤ l ≡ signed side i *ℤ d → (signed side n *ℤ b) *ℤ l ≡ i *ℤ d
same_on Lower n b l i d e = e
same_on Upper n b l i d e =
    let f = ap (λ z. z *ℤ l) (neg_mul n b) in let g = neg_mul (n *ℤ b) l in let h = neg_mul i d in omega (arith, ints)

pub criticals_on : (side : Side) (x : ℕ) (p : Point ℕ) (t : Tree) → EachOf (AtomIn Fields) (atoms_of t) → EachOf (λ a. Alone x (form_of a)) (atoms_of t) →
    AreCritical x p (CriticalOn side x t p) (map (seen side) (critical_values x (atoms_of t)))
criticals_on side x p t inside alone = record {
  proper = each_seen side (critical_values x (atoms_of t)) (roots_proper x p (atoms_of t));
  there = λ w m.
      subst (λ z. IsCritical x t p z (unsigned_abs w.denominator)) (signed_times side w.numerator (pos p.below))
      (zero_at_roots x p (atoms_of t) (seen side w) alone (from_atom x p (atoms_of t) (seen side w) (among_seen side (critical_values x (atoms_of t)) w m)));
  found = λ i l critical.
      let r = value_at_zero x p (atoms_of t) (signed side i) l inside alone critical in
      record {
        critical = seen side r.critical;
        among = seen_among side (critical_values x (atoms_of t)) r.critical r.among;
        proper = r.proper;
        same = same_on side r.critical.numerator (pos p.below) (pos l) i r.critical.denominator r.same;
      };
}

-- ---- samples of the lower side

-- no value with C has P
abbrev pub NoneOf : (ℤ → ℕ → Type 0) → (ℤ → ℕ → Type 0) → Type 0
NoneOf C P = (k : ℤ) (m : ℕ) → 0 < m → P k m → ¬ (C k m)

-- k/m is half way from v/d to the least value with C above v/d; one more where there is none
abbrev pub PastOf : (ℤ → ℕ → Type 0) → ℕ → ℤ → ℕ → ℤ → ℕ → Type 0
PastOf C b v d k m =
    ((j : ℤ) × (n : ℕ) × 0 < n × C j n × IsLess v d j n × NoneOf C (λ i l. IsLess v d i l × IsLess i l j n) × IsHalfway v d j n k m)
    ⊎ (NoneOf C (λ i l. IsLess v d i l) × (k *ℤ pos d ≡ (v +ℤ pos (d * b)) *ℤ pos m))

-- k/m is one less than the least value with C; 0 where there is none
abbrev pub BelowOf : (ℤ → ℕ → Type 0) → ℕ → ℤ → ℕ → Type 0
BelowOf C b k m =
    ((j : ℤ) × (n : ℕ) × 0 < n × C j n × NoneOf C (λ i l. IsLess i l j n) × (k *ℤ pos n ≡ (j -ℤ pos (n * b)) *ℤ pos m))
    ⊎ (NoneOf C (λ i l. Unit {0}) × (k ≡ pos 0))

-- ---- the samples of both sides

less_turned : (v j n d : ℤ) → (neg_ℤ v *ℤ n) <ℤ (j *ℤ d) → (neg_ℤ j *ℤ d) <ℤ (v *ℤ n)
less_turned v j n d h = let a = neg_mul v n in let b = neg_mul j d in omega (arith, ints)

less_negated : (i d v l : ℤ) → (i *ℤ d) <ℤ (v *ℤ l) → (neg_ℤ v *ℤ l) <ℤ (neg_ℤ i *ℤ d)
less_negated i d v l h = let a = neg_mul i d in let b = neg_mul v l in omega (arith, ints)

scaled_negated : (k c s t m : ℤ) → t ≡ neg_ℤ s → k *ℤ c ≡ s *ℤ m → neg_ℤ k *ℤ c ≡ t *ℤ m
scaled_negated k c s t m e h = let a = neg_mul k c in let b = neg_mul s m in let f = ap (λ z. z *ℤ m) e in omega (arith, ints)

both_ends : (v n j d : ℤ) → v *ℤ n +ℤ neg_ℤ j *ℤ d ≡ neg_ℤ (neg_ℤ v *ℤ n +ℤ j *ℤ d)
both_ends v n j d = let a = neg_mul v n in let b = neg_mul j d in omega (arith, ints)

one_short : (v c : ℤ) → v -ℤ c ≡ neg_ℤ (neg_ℤ v +ℤ c)
one_short v c = omega (arith, ints)

one_above : (j c : ℤ) → neg_ℤ j +ℤ c ≡ neg_ℤ (j -ℤ c)
one_above j c = omega (arith, ints)

module _ (x : ℕ) (t : Tree) (p : Point ℕ) where
  -- a value that is critical is so as the negative of its negative
  back : (i : ℤ) (l : ℕ) → IsCritical x t p i l → CriticalOn Upper x t p (neg_ℤ i) l
  back i l critical = subst (λ z. IsCritical x t p z l) (sym (neg_neg i)) critical

  short_from_past : (v : ℤ) (d : ℕ) (k : ℤ) (m : ℕ) → PastOf (CriticalOn Upper x t p) p.below (neg_ℤ v) d k m → IsJustShort x t p v d (neg_ℤ k) m
  short_from_past v d k m (inl (j, n, pn, critical, above, between, half)) = inl (
    neg_ℤ j,
    n,
    pn,
    critical,
    less_turned v j (pos n) (pos d) above,
    λ i l pl q c. between (neg_ℤ i) l pl (less_negated i (pos d) v (pos l) q.0, less_turned j i (pos l) (pos n) q.1) (back i l c),
    scaled_negated k (pos (2 * (d * n))) _ _ (pos m) (both_ends v (pos n) j (pos d)) half,
  )
  short_from_past v d k m (inr (none, one)) =
      inr (λ i l pl q c. none (neg_ℤ i) l pl (less_negated i (pos d) v (pos l) q) (back i l c), scaled_negated k (pos d) _ _ (pos m) (one_short v (pos (d * p.below))) one)

  above_from_below : (k : ℤ) (m : ℕ) → BelowOf (CriticalOn Upper x t p) p.below k m → IsAboveAll x t p (neg_ℤ k) m
  above_from_below k m (inl (j, n, pn, critical, first, one)) = inl (
    neg_ℤ j,
    n,
    pn,
    critical,
    λ i l pl q c. first (neg_ℤ i) l pl (less_turned j i (pos l) (pos n) q) (back i l c),
    scaled_negated k (pos n) _ _ (pos m) (one_above j (pos (n * p.below))) one,
  )
  above_from_below k m (inr (none, zero)) = inr (λ i l pl q c. none (neg_ℤ i) l pl tt (back i l c), ap neg_ℤ zero)

  -- k/m is just past v/d, or just short of it
  abbrev pub IsBeside : Side → ℤ → ℕ → ℤ → ℕ → Type 0
  IsBeside Lower v d k m = IsJustPast x t p v d k m
  IsBeside Upper v d k m = IsJustShort x t p v d k m

  pub beside_from : (side : Side) (v : ℤ) (d : ℕ) (k : ℤ) (m : ℕ) → PastOf (CriticalOn side x t p) p.below (signed side v) d k m → IsBeside side v d (signed side k) m
  beside_from Lower v d k m h = h
  beside_from Upper v d k m h = short_from_past v d k m h

  -- k/m is below all critical values, or above all
  abbrev pub IsBeyond : Side → ℤ → ℕ → Type 0
  IsBeyond Lower k m = IsBelowAll x t p k m
  IsBeyond Upper k m = IsAboveAll x t p k m

  pub beyond_from : (side : Side) (k : ℤ) (m : ℕ) → BelowOf (CriticalOn side x t p) p.below k m → IsBeyond side (signed side k) m
  beyond_from Lower k m h = h
  beyond_from Upper k m h = above_from_below k m h
