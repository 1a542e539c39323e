-- Over the integers the calculated value is the sample of the place.
use Rattle.std.proofs.Common.{◌≡◌, ℕ, suc, zero, ◌<◌, List, [], ◌∷◌, map, Option, Some, None, ◌⊎◌, inl, inr, ◌↔◌, refl, sym, ap, ◌∙◌, subst, subst₂, arith, nat_eq}
use Rattle.std.proofs.Math.IntN.{ℤ, pos, negsuc, neg_ℤ, ◌+ℤ◌, ◌-ℤ◌, ◌*ℤ◌}
use Rattle.std.specs.Prelude.{◌<ℤ◌, ◌≤ℤ◌}
use Rattle.std.proofs.lemmas.Int.{ints}
use Rattle.exact_numbers.specs.Limit.{checked}
use Rattle.exact_numbers.specs.Divides.{Divides, floor_of, residue_of}
use Rattle.exact_numbers.specs.Frac.{Frac, IsProper, IsLowest, whole_frac}
use Rattle.exact_numbers.proofs.Ring.{ring, mul_one, mul_zero, mul_comm, neg_mul}
use Rattle.exact_numbers.proofs.Order.{cancel_positive, cancel_less, mul_less, by_less, by_zero}
use Rattle.exact_numbers.proofs.Divisibility.{divides_same, divides_along, divisor_at_most, divides_neg, divides_sub, neg_divides}
use Rattle.exact_numbers.proofs.Floor.{floor_is, residue_is, at_most_floor, from_at_most_floor}
use Rattle.exact_numbers.proofs.FractionRule.{whole_lowest}
use Rattle.exact_numbers.proofs.Limits.{checked_some}
use Rattle.logic_meaning.specs.Context.{Integers}
use Rattle.logic_meaning.specs.Point.{Point, move}
use Rattle.logic_meaning.specs.Every.{Every}
use Rattle.logic_meaning.specs.Some.{Among, SomeOf, EachOf}
use Rattle.logic_meaning.specs.Form.{Form, value, coefficient}
use Rattle.logic_meaning.specs.Atom.{Atom, Compare, Congruent, form_of}
use Rattle.logic_meaning.specs.Answer.{Place, Exact, AboveBy, BelowBy, PlusInfinity, MinusInfinity, Periodic, Holds}
use Rattle.logic_meaning.specs.Tree.{Tree}
use Rattle.formula_laws.proofs.Listed.{among_some, some_among}
use Rattle.logic_meaning.specs.declared.side.Side.{Side}
use Rattle.logic_meaning.specs.declared.side.Side.TheVariants.{Lower, Upper}
use Rattle.logic_meaning.specs.Atoms.{atoms_of}
use Rattle.logic_meaning.specs.IntegersPoints.{signed}
use Rattle.logic_meaning.specs.IntegersSubstitution.{along}
use Rattle.elimination_theory.specs.AtPlace.{at_place}
use Rattle.logic_meaning.specs.IntegerPlace.{IsIntegerPlace}
use Rattle.elimination_theory.proofs.Fractions.{less_at_most}
use Rattle.elimination_theory.specs.IntegersSample.{IsPast, LiesBeyond, HasCriticalValue, IsClassSample, IsIntegerSample}
use Rattle.elimination_theory.proofs.IntegerSides.{signed_signed, signed_mul}
use Rattle.elimination_theory.proofs.SomeListed.{each_among, every_of_atoms, atoms_of_every}
use Rattle.logic_meaning.specs.PutIn.{tree_put}
use Rattle.logic_meaning.specs.Calculated.{atom_root, critical_values, criticals, least_past, form_value, whole_below, class_member, class_below, seen, value_in_class, class_beyond, place_value}
use Rattle.sample_reference.proofs.SamePoints.{some_same, none_some, some_then}
use Rattle.sample_reference.proofs.Leasts.{AtMost, first_of, none_at_all}
use Rattle.sample_reference.proofs.Critical.{Alone, line, root_is, root_there, roots_proper, from_atom, to_atom}
use Rattle.sample_reference.proofs.Sides.{neg_neg, seen_lowest, among_seen, seen_among, each_seen, seen_back}
use Rattle.sample_reference.proofs.FieldsValue.{form_value_is, criticals_are}

-- ---- a whole number over a number

pub divides_one : (n d k : ℤ) → pos 0 <ℤ d → IsLowest (record { numerator = n; denominator = d }) → n ≡ k *ℤ d → d ≡ pos 1
divides_one n d k h low e =
    let one : Divides d (pos 1) = low.greatest d (record { quotient = k; exact = e ∙ mul_comm k d }) (divides_same d) in
    let most = divisor_at_most (omega (arith, ints)) one in
    omega (arith, ints)

whole_value : (n d k v l : ℤ) → pos 0 <ℤ l → (n *ℤ pos 1) *ℤ l ≡ v *ℤ d → v ≡ k *ℤ l → n ≡ k *ℤ d
whole_value n d k v l h e f =
    let g = simp ring at (ap (λ z. z *ℤ d) f) in
    let m = sym (ap (λ z. z *ℤ l) (mul_one n)) ∙ e in
    let both : l *ℤ n ≡ l *ℤ (k *ℤ d) = simp ring (omega (arith, ints, g, m)) in
    cancel_positive l h both

-- a whole value in lowest terms
pub record IsWholeValue (r : Frac) : Type 0 where
  pub proper : IsProper r
  pub lowest_terms : IsLowest r
  pub one : r.denominator ≡ pos 1

exact_whole : (e : Form) (l : ℕ) (p : Point ℕ) (r : Frac) (k : ℤ) → 0 < l → p.below ≡ 1 → form_value e l p ≡ Some r → value e p ≡ k *ℤ pos l → IsWholeValue r × (value e p ≡ (r.numerator *ℤ pos p.below) *ℤ pos l)
exact_whole e l p r k pl b h is =
    let v = form_value_is e l p r pl (omega arith) h in
    let q : pos 0 <ℤ pos l = omega (arith, ints) in
    let one : pos p.below ≡ pos 1 = ap pos b in
    let n = whole_value r.numerator r.denominator k (value e p) (pos l) q (sym (ap (λ z. (r.numerator *ℤ z) *ℤ pos l) one) ∙ v.same) is in
    let d = divides_one r.numerator r.denominator k v.proper v.lowest_terms n in (
      record { proper = v.proper; lowest_terms = v.lowest_terms; one = d },
      sym (mul_one (value e p)) ∙ ap (λ z. value e p *ℤ z) (sym d) ∙ sym v.same,
    )

-- ---- the class below the least critical value

-- the form is past its zero
past_root : (a t k n d : ℤ) → pos 0 <ℤ d → a *ℤ n +ℤ t *ℤ d ≡ pos 0 → (k *ℤ d) <ℤ n → IsPast a (a *ℤ k +ℤ t)
past_root (pos zero) t k n d h e less = tt
past_root (pos (suc c)) t k n d h e less =
    let a : ℤ = pos (suc c) in
    let m = mul_less (pos (suc c)) (omega (arith, ints)) less in
    let z : (pos (suc c) *ℤ (k *ℤ d)) <ℤ (pos (suc c) *ℤ n) = m in
    cancel_less d h (scaled_past (pos (suc c)) t k n d e z)
  where
    scaled_past : (a t k n d : ℤ) → a *ℤ n +ℤ t *ℤ d ≡ pos 0 → (a *ℤ (k *ℤ d)) <ℤ (a *ℤ n) → (d *ℤ (a *ℤ k +ℤ t)) <ℤ (d *ℤ pos 0)
    scaled_past a t k n d e z =
        let x : d *ℤ (a *ℤ k +ℤ t) ≡ a *ℤ (k *ℤ d) +ℤ t *ℤ d = simp ring refl in
        let y = mul_zero d in
        omega (arith, ints)
past_root (negsuc c) t k n d h e less =
    let m = mul_less (pos (suc c)) (omega (arith, ints)) less in
    cancel_less d h (scaled_past (pos (suc c)) (negsuc c) t k n d (omega (arith, ints)) e m)
  where
    scaled_past : (b a t k n d : ℤ) → a ≡ neg_ℤ b → a *ℤ n +ℤ t *ℤ d ≡ pos 0 → (b *ℤ (k *ℤ d)) <ℤ (b *ℤ n) → (d *ℤ pos 0) <ℤ (d *ℤ (a *ℤ k +ℤ t))
    scaled_past b a t k n d s e z =
        let x : d *ℤ (a *ℤ k +ℤ t) ≡ a *ℤ (k *ℤ d) +ℤ t *ℤ d = simp ring refl in
        let u = ap (λ w. w *ℤ n) s ∙ neg_mul b n in
        let v = ap (λ w. w *ℤ (k *ℤ d)) s ∙ neg_mul b (k *ℤ d) in
        let y = mul_zero d in
        omega (arith, ints)

-- what is past the zero lies below it
below_root : (a t k n d : ℤ) → pos 0 <ℤ d → ¬ (a ≡ pos 0) → a *ℤ n +ℤ t *ℤ d ≡ pos 0 → IsPast a (a *ℤ k +ℤ t) → (k *ℤ d) <ℤ n
below_root (pos zero) t k n d h m e past = absurd (m refl)
below_root (pos (suc c)) t k n d h m e past = cancel_less (pos (suc c)) (omega (arith, ints)) (back (pos (suc c)) t k n d e (mul_less d h past))
  where
    back : (a t k n d : ℤ) → a *ℤ n +ℤ t *ℤ d ≡ pos 0 → (d *ℤ (a *ℤ k +ℤ t)) <ℤ (d *ℤ pos 0) → (a *ℤ (k *ℤ d)) <ℤ (a *ℤ n)
    back a t k n d e z =
        let x : d *ℤ (a *ℤ k +ℤ t) ≡ a *ℤ (k *ℤ d) +ℤ t *ℤ d = simp ring refl in
        let y = mul_zero d in
        omega (arith, ints)
below_root (negsuc c) t k n d h m e past = cancel_less (pos (suc c)) (omega (arith, ints)) (back (pos (suc c)) (negsuc c) t k n d (omega (arith, ints)) e (mul_less d h past))
  where
    back : (b a t k n d : ℤ) → a ≡ neg_ℤ b → a *ℤ n +ℤ t *ℤ d ≡ pos 0 → (d *ℤ pos 0) <ℤ (d *ℤ (a *ℤ k +ℤ t)) → (b *ℤ (k *ℤ d)) <ℤ (b *ℤ n)
    back b a t k n d s e z =
        let x : d *ℤ (a *ℤ k +ℤ t) ≡ a *ℤ (k *ℤ d) +ℤ t *ℤ d = simp ring refl in
        let u = ap (λ w. w *ℤ n) s ∙ neg_mul b n in
        let v = ap (λ w. w *ℤ (k *ℤ d)) s ∙ neg_mul b (k *ℤ d) in
        let y = mul_zero d in
        omega (arith, ints)

zero_past : (c v : ℤ) → c ≡ pos 0 → IsPast c v
zero_past (pos zero) v e = tt
zero_past (pos (suc n)) v e = absurd (omega (arith, ints))
zero_past (negsuc n) v e = absurd (omega (arith, ints))

each_member : {X : Type 0} (P : X → Type 0) (xs : List X) → ((x : X) → Among xs x → P x) → EachOf P xs
each_member P [] h = tt
each_member P (x ∷ xs) h = (h x (inl refl), each_member P xs (λ y m. h y (inr m)))

-- the whole number below a fraction
below_whole : (n d k : ℤ) → pos 0 <ℤ d → k ≤ℤ floor_of (n -ℤ pos 1) d → (k *ℤ d) <ℤ n
below_whole n d k h less =
    let m = from_at_most_floor (floor_of (n -ℤ pos 1) d) h (floor_is (n -ℤ pos 1) d h) less in
    let c = mul_comm d k in
    omega (arith, ints)

whole_up : (n d k : ℤ) → pos 0 <ℤ d → (k *ℤ d) <ℤ n → k ≤ℤ floor_of (n -ℤ pos 1) d
whole_up n d k h less =
    let c = mul_comm k d in
    let m : (d *ℤ k) ≤ℤ (n -ℤ pos 1) = omega (arith, ints) in
    at_most_floor (floor_of (n -ℤ pos 1) d) h (floor_is (n -ℤ pos 1) d h) m

less_too : (k n d c e : ℤ) → pos 0 <ℤ d → pos 0 <ℤ e → (k *ℤ d) <ℤ n → (n *ℤ e) ≤ℤ (c *ℤ d) → (k *ℤ e) <ℤ c
less_too k n d c e h g less most =
    let m = less_at_most k (pos 1) n d c e (omega (arith, ints)) h g (subst (λ z. (k *ℤ d) <ℤ z) (sym (mul_one n)) less) most in
    subst (λ z. (k *ℤ e) <ℤ z) (mul_one c) m

-- ---- beyond the critical values, as a side sees it

-- the period of a side
abbrev pub period_on : Side → ℕ → ℤ
period_on Lower q = negsuc q
period_on Upper q = pos (suc q)

along_is : (side : Side) (q : ℕ) (c : ℤ) → along (period_on side q) c ≡ signed side c
along_is Lower q c = refl
along_is Upper q c = refl

signed_zero : (side : Side) (c : ℤ) → c ≡ pos 0 → signed side c ≡ pos 0
signed_zero Lower c e = e
signed_zero Upper c e = ap neg_ℤ e

signed_not_zero : (side : Side) (c : ℤ) → ¬ (c ≡ pos 0) → ¬ (signed side c ≡ pos 0)
signed_not_zero side c h e = h (sym (signed_signed side c) ∙ signed_zero side (signed side c) e)

-- a root of a * x + t, as the side sees it
signed_root : (side : Side) (a n t d : ℤ) → a *ℤ signed side n +ℤ t *ℤ d ≡ pos 0 → signed side a *ℤ n +ℤ t *ℤ d ≡ pos 0
signed_root side a n t d e = ap (λ z. z +ℤ t *ℤ d) (sym (signed_mul side a n)) ∙ e

seen_root : (side : Side) (a n t d : ℤ) → a *ℤ n +ℤ t *ℤ d ≡ pos 0 → signed side a *ℤ signed side n +ℤ t *ℤ d ≡ pos 0
seen_root side a n t d e = signed_root side a (signed side n) t d (ap (λ z. a *ℤ z +ℤ t *ℤ d) (signed_signed side n) ∙ e)

module _ (side : Side) (x : ℕ) (q : ℕ) (p : Point ℕ) (t : Tree) (pb : p.below ≡ 1) (alone : EachOf (λ a. Alone x (form_of a)) (atoms_of t)) where
  abbrev values : List Frac
  values = map (seen side) (critical_values x (atoms_of t))

  -- k, as the side sees it, lies beyond all critical values
  abbrev Beyond : ℤ → Type 0
  Beyond k = Every (LiesBeyond x (period_on side q) p (signed side k)) t

  line_one : (f : Form) (k : ℤ) → Alone x f → value f (move nat_eq p x (signed side k) 1) ≡ signed side (coefficient x f) *ℤ k +ℤ f.constant
  line_one f k h =
      line x p f (signed side k) 1 h ∙ ap (λ z. coefficient x f *ℤ signed side k +ℤ z) (mul_one (f.constant *ℤ pos p.below) ∙ ap (λ z. f.constant *ℤ pos z) pb ∙ mul_one f.constant)
      ∙ ap (λ z. z +ℤ f.constant) (signed_mul side (coefficient x f) k)

  among_values : (a : Atom) (w : Frac) → Among (atoms_of t) a → atom_root x a ≡ Some w → Among values (seen side w)
  among_values a w m e = seen_among side (critical_values x (atoms_of t)) w (to_atom x p (atoms_of t) w (among_some (λ b. atom_root x b ≡ Some w) (atoms_of t) a m e))

  -- beyond the critical value of a comparison is past its zero
  past_is : (f : Form) (k : ℤ) → Alone x f → IsPast (signed side (coefficient x f)) (signed side (coefficient x f) *ℤ k +ℤ f.constant)
      ↔ IsPast (along (period_on side q) (coefficient x f)) (value f (move nat_eq p x (signed side k) 1))
  past_is f k h = (
    subst₂ IsPast (sym (along_is side q (coefficient x f))) (sym (line_one f k h)),
    subst₂ IsPast (along_is side q (coefficient x f)) (line_one f k h),
  )

  -- a number below the least critical value lies beyond all
  all_beyond : (w : Frac) (k : ℤ) → IsProper w → ((v : Frac) → Among values v → AtMost w v) → (k *ℤ w.denominator) <ℤ w.numerator → Beyond k
  all_beyond w k pw first less = every_of_atoms (LiesBeyond x (period_on side q) p (signed side k)) t (each_member (LiesBeyond x (period_on side q) p (signed side k)) (atoms_of t) one)
    where
      one : (a : Atom) → Among (atoms_of t) a → LiesBeyond x (period_on side q) p (signed side k) a
      one (Congruent holds n f) m = tt
      one (Compare r f) m =
          (past_is f k (each_among (λ a. Alone x (form_of a)) (atoms_of t) (Compare r f) alone m)).0
          (by_zero (coefficient x f) (λ e. zero_past (signed side (coefficient x f)) _ (signed_zero side (coefficient x f) e)) (λ moves.
          let v = root_there (coefficient x f) f.constant moves in
          let is = root_is (coefficient x f) f.constant v.0 v.1 in
          past_root (signed side (coefficient x f)) f.constant k (signed side v.0.numerator) v.0.denominator is.proper (seen_root side (coefficient x f) v.0.numerator f.constant v.0.denominator is.zero_there)
          (less_too k w.numerator w.denominator (signed side v.0.numerator) v.0.denominator pw is.proper less (first (seen side v.0) (among_values (Compare r f) v.0 m v.1)))))

  -- the atom of a critical value
  record HasAtom (w : Frac) : Type 0 where
    critical : SomeOf (HasCriticalValue x) (atoms_of t)
    below : (k : ℤ) → Beyond k → (k *ℤ w.denominator) <ℤ w.numerator

  has_atom : (w : Frac) → Among values w → HasAtom w
  has_atom w m = go (some_among (λ b. atom_root x b ≡ Some (seen side w)) (atoms_of t) (from_atom x p (atoms_of t) (seen side w) (among_seen side (critical_values x (atoms_of t)) w m)))
    where
      of : (a : Atom) → Among (atoms_of t) a → atom_root x a ≡ Some (seen side w) → HasAtom w
      of (Congruent holds n f) s e = none_some (seen side w) e
      of (Compare r f) s e =
          let is = root_is (coefficient x f) f.constant (seen side w) e in
          record {
            critical = among_some (HasCriticalValue x) (atoms_of t) (Compare r f) s is.moves;
            below = λ k every.
                below_root (signed side (coefficient x f)) f.constant k w.numerator w.denominator is.proper (signed_not_zero side (coefficient x f) is.moves)
                (signed_root side (coefficient x f) w.numerator f.constant w.denominator is.zero_there)
                ((past_is f k (each_among (λ a. Alone x (form_of a)) (atoms_of t) (Compare r f) alone s)).1
                (each_among (LiesBeyond x (period_on side q) p (signed side k)) (atoms_of t) (Compare r f) (atoms_of_every (LiesBeyond x (period_on side q) p (signed side k)) t every) s));
          }

      go : (a : Atom) × Among (atoms_of t) a × (atom_root x a ≡ Some (seen side w)) → HasAtom w
      go r = of r.0 r.1 r.2

  none_critical : least_past None values ≡ None → ¬ (SomeOf (HasCriticalValue x) (atoms_of t))
  none_critical e some = go (some_among (HasCriticalValue x) (atoms_of t) some)
    where
      of : (a : Atom) → Among (atoms_of t) a → HasCriticalValue x a → ⊥
      of (Congruent holds n f) s h = h
      of (Compare r f) s h = let v = root_there (coefficient x f) f.constant h in none_at_all values (seen side v.0) e (among_values (Compare r f) v.0 s v.1)

      go : (a : Atom) × Among (atoms_of t) a × HasCriticalValue x a → ⊥
      go r = of r.0 r.1 r.2

-- ---- the member of the class

module _ (j : ℤ) (q : ℕ) where
  member_divides : (m : ℤ) → Divides (negsuc q) (class_member j (pos (suc q)) m -ℤ j)
  member_divides m =
      let r = residue_is (m -ℤ j) (pos (suc q)) (omega (arith, ints)) in
      neg_divides (divides_along (turned m (residue_of (m -ℤ j) (pos (suc q)))) r.same)
    where
      turned : (m r : ℤ) → (m -ℤ j) -ℤ r ≡ (m -ℤ r) -ℤ j
      turned m r = omega (arith, ints)

  member_first : (m w : ℤ) → Divides (negsuc q) (w -ℤ j) → w ≤ℤ m → w ≤ℤ class_member j (pos (suc q)) m
  member_first m w d most =
      let k = class_member j (pos (suc q)) m in
      let r = residue_is (m -ℤ j) (pos (suc q)) (omega (arith, ints)) in
      by_less k w
      (λ more.
      let up : Divides (pos (suc q)) (w -ℤ k) = divides_along (apart w k) (divides_sub (neg_divides d) (neg_divides (member_divides m))) in
      let big = divisor_at_most (above k w more) up in
      absurd (far (pos (suc q)) m w (residue_of (m -ℤ j) (pos (suc q))) r.below big most))
      (λ less. less)
    where
      apart : (w k : ℤ) → (w -ℤ j) -ℤ (k -ℤ j) ≡ w -ℤ k
      apart w k = omega (arith, ints)

      above : (k w : ℤ) → k <ℤ w → pos 0 <ℤ (w -ℤ k)
      above k w h = omega (arith, ints)

      far : (s m w r : ℤ) → r <ℤ s → s ≤ℤ (w -ℤ (m -ℤ r)) → w ≤ℤ m → ⊥
      far s m w r a b c = absurd (omega (arith, ints))

  member_at_most : (m : ℤ) → class_member j (pos (suc q)) m ≤ℤ m
  member_at_most m = let r = (residue_is (m -ℤ j) (pos (suc q)) (omega (arith, ints))).not_negative in under m (residue_of (m -ℤ j) (pos (suc q))) r
    where
      under : (m r : ℤ) → pos 0 ≤ℤ r → (m -ℤ r) ≤ℤ m
      under m r h = omega (arith, ints)

-- ---- the class beyond the critical values

module _ (side : Side) (x : ℕ) (j : ℤ) (q : ℕ) (p : Point ℕ) (t : Tree) (pb : p.below ≡ 1) (alone : EachOf (λ a. Alone x (form_of a)) (atoms_of t)) where
  abbrev seen_values : List Frac
  seen_values = map (seen side) (critical_values x (atoms_of t))

  abbrev IsFar : ℤ → Type 0
  IsFar k = Divides (negsuc q) (k -ℤ signed side j) × Beyond side x q p t pb alone k

  -- k, as the side sees it, is the first number of the class beyond all critical values; j where there is none
  abbrev IsFirstFar : ℤ → Type 0
  IsFirstFar k =
      (¬ (SomeOf (HasCriticalValue x) (atoms_of t)) × k ≡ signed side j)
      ⊎ (SomeOf (HasCriticalValue x) (atoms_of t) × IsFar k × ((w : ℤ) → IsFar w → w ≤ℤ k))

  first_far : (r : Frac) → class_below (signed side j) (pos (suc q)) (least_past None seen_values) ≡ Some r → IsWholeValue r × IsFirstFar r.numerator
  first_far r h = go (least_past None seen_values) refl h
    where
      whole : (k : ℤ) → IsWholeValue (whole_frac k)
      whole k = record { proper = omega (arith, ints); lowest_terms = whole_lowest k; one = refl }

      go : (o : Option Frac) → least_past None seen_values ≡ o → class_below (signed side j) (pos (suc q)) o ≡ Some r → IsWholeValue r × IsFirstFar r.numerator
      go None f g =
          subst (λ (a : Frac). IsWholeValue a × IsFirstFar a.numerator) (some_same (whole_frac (signed side j)) r g) (whole (signed side j), inl (none_critical side x q p t pb alone f, refl))
      go (Some w) f g = some_then (checked (class_member (signed side j) (pos (suc q)) (whole_below w))) _ r g (λ k u y.
          let m = whole_below w in
          let i = signed side j in
          let n = first_of seen_values w (each_seen side (critical_values x (atoms_of t)) (roots_proper x p (atoms_of t))) f in
          let has = has_atom side x q p t pb alone w n.among in
          let is : class_member i (pos (suc q)) m ≡ k = (checked_some (class_member i (pos (suc q)) m) k u).0 in
          subst (λ (a : Frac). IsWholeValue a × IsFirstFar a.numerator) (ap whole_frac is ∙ some_same (whole_frac k) r y) (
            whole (class_member i (pos (suc q)) m),
            inr (
              has.critical,
              (member_divides i q m, all_beyond side x q p t pb alone w (class_member i (pos (suc q)) m) n.proper n.first (below_whole w.numerator w.denominator (class_member i (pos (suc q)) m) n.proper (member_at_most i q m))),
              λ v other. member_first i q m v other.0 (whole_up w.numerator w.denominator v n.proper (has.below v other.1)),
            ),
          ))

module _ (x : ℕ) (j : ℤ) (q : ℕ) (p : Point ℕ) (t : Tree) (pb : p.below ≡ 1) (alone : EachOf (λ a. Alone x (form_of a)) (atoms_of t)) where
  -- the first far number of a side is the sample of the class
  class_from : (side : Side) (k : ℤ) → IsFirstFar side x j q p t pb alone k → IsClassSample x j (period_on side q) t p (signed side k)
  class_from Lower k h = h
  class_from Upper k (inl (none, e)) = inl (none, ap neg_ℤ e ∙ neg_neg j)
  class_from Upper k (inr (some, far, first)) = inr (
    some,
    (class_turned k far.0, far.1),
    λ w other.
        at_most_turned k w
        (first (neg_ℤ w) (class_back w other.0, subst (λ z. Every (LiesBeyond x (pos (suc q)) p z) t) (sym (neg_neg w)) other.1)),
  )
    where
      class_turned : (k : ℤ) → Divides (negsuc q) (k -ℤ neg_ℤ j) → Divides (pos (suc q)) (neg_ℤ k -ℤ j)
      class_turned k d = neg_divides (divides_along (apart k) (divides_neg d))
        where
          apart : (k : ℤ) → neg_ℤ (k -ℤ neg_ℤ j) ≡ neg_ℤ k -ℤ j
          apart k = omega (arith, ints)

      class_back : (w : ℤ) → Divides (pos (suc q)) (w -ℤ j) → Divides (negsuc q) (neg_ℤ w -ℤ neg_ℤ j)
      class_back w d = neg_divides (divides_along (apart w) (divides_neg d))
        where
          apart : (w : ℤ) → neg_ℤ (w -ℤ j) ≡ neg_ℤ w -ℤ neg_ℤ j
          apart w = omega (arith, ints)

      at_most_turned : (k w : ℤ) → neg_ℤ w ≤ℤ k → neg_ℤ k ≤ℤ w
      at_most_turned k w h = omega (arith, ints)

  class_sample : (side : Side) (r : Frac) → value_in_class side j (pos (suc q)) (critical_values x (atoms_of t)) ≡ Some r → IsWholeValue r × IsClassSample x j (period_on side q) t p r.numerator
  class_sample side r h =
      let s = seen_back side (class_below (signed side j) (pos (suc q)) (least_past None (map (seen side) (critical_values x (atoms_of t))))) r h in
      let g = first_far side x j q p t pb alone s.found s.is in
      subst (λ (a : Frac). IsWholeValue a × IsClassSample x j (period_on side q) t p a.numerator) s.back (
        record { proper = g.0.proper; lowest_terms = seen_lowest side s.found g.0.lowest_terms; one = g.0.one },
        class_from side s.found.numerator g.1,
      )

class_calculated : (side : Side) (x : ℕ) (j : ℤ) (q : ℕ) (f : Tree) (p : Point ℕ) (r : Frac) → p.below ≡ 1 → EachOf (λ a. Alone x (form_of a)) (atoms_of (tree_put Integers p (x ∷ []) f)) →
    class_beyond Integers side x j (pos (suc q)) f p ≡ Some r →
    IsWholeValue r × IsClassSample x j (period_on side q) (tree_put Integers p (x ∷ []) f) p (r.numerator *ℤ pos p.below)
class_calculated side x j q f p r pb alone h =
    some_then (criticals Integers x f p) _ r h (λ values m n.
    let g = class_sample x j q p (tree_put Integers p (x ∷ []) f) pb alone side r (ap (value_in_class side j (pos (suc q))) (criticals_are Integers x f p values m) ∙ n) in
    (g.0, subst (IsClassSample x j (period_on side q) (tree_put Integers p (x ∷ []) f) p) (sym (ap (λ z. r.numerator *ℤ pos z) pb ∙ mul_one r.numerator)) g.1))

-- ---- all places

pub integer_sample : (x : ℕ) (s : Place) (f : Tree) (p : Point ℕ) (r : Frac) → p.below ≡ 1 → IsIntegerPlace s → EachOf (λ a. Alone x (form_of a)) (atoms_of (tree_put Integers p (x ∷ []) f)) →
    Holds Integers (at_place x s) (tree_put Integers p (x ∷ []) f) p → place_value Integers x s f p ≡ Some r → IsWholeValue r × IsIntegerSample x s (tree_put Integers p (x ∷ []) f) p (r.numerator *ℤ pos p.below)
integer_sample x (Exact e l) f p r pb place alone (k, is, holds) h = exact_whole e l p r k place pb h is
integer_sample x (Periodic j (negsuc q)) f p r pb place alone holds h = class_calculated Lower x j q f p r pb alone h
integer_sample x (Periodic j (pos (suc q))) f p r pb place alone holds h = class_calculated Upper x j q f p r pb alone h
integer_sample x (Periodic j (pos zero)) f p r pb place alone holds h = absurd (place refl)
integer_sample x (AboveBy e l) f p r pb place alone holds h = absurd place
integer_sample x (BelowBy e l) f p r pb place alone holds h = absurd place
integer_sample x PlusInfinity f p r pb place alone holds h = absurd place
integer_sample x MinusInfinity f p r pb place alone holds h = absurd place
