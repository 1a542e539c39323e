-- Sets of whole numbers that no comparison stands for.
use Rattle.std.proofs.Common.{◌≡◌, Bool, true, false, not, ◌&&◌, sym, ◌∙◌, ap, refl, arith}
use Rattle.std.proofs.Math.IntN.{ℤ, pos, negsuc, ◌+ℤ◌, ◌-ℤ◌, ◌*ℤ◌}
use Rattle.std.specs.Prelude.{◌<ℤ◌, ◌≤ℤ◌}
use Rattle.std.specs.declared.cmp.Ordering.TheVariants.{Less, Greater}
use Rattle.std.specs.Ordering.{int_cmp}
use Rattle.std.proofs.lemmas.Int.{ints}
use Rattle.exact_numbers.proofs.Order.{mul_less, compare_less, compare_more}
use Rattle.logic_meaning.specs.Atom.{Relation, Equals, Differs, Below, AtMost, Above, AtLeast, Relates, opposite_relation}
use Rattle.logic_meaning.specs.NormalForm.{holds, IsIntegerRelation}
use Rattle.normal_atoms.proofs.Relations.{holds_so}
use Rattle.normal_atoms.proofs.Tables.{opposite_holds}

-- two numbers in the set, two out of it, one in it above one out, and one in it below one out
pub record IsMixed (S : ℤ → Bool) : Type 0 where
  pub first : ℤ
  pub second : ℤ
  pub low : ℤ
  pub high : ℤ
  pub first_below : first <ℤ second
  pub low_below : low <ℤ high
  pub second_above : low <ℤ second
  pub high_above : first <ℤ high
  pub first_in : S first ≡ true
  pub second_in : S second ≡ true
  pub low_out : S low ≡ false
  pub high_out : S high ≡ false

pub mixed_along : (S T : ℤ → Bool) → ((n : ℤ) → S n ≡ T n) → IsMixed S → IsMixed T
mixed_along S T e m = record {
  first = m.first;
  second = m.second;
  low = m.low;
  high = m.high;
  first_below = m.first_below;
  low_below = m.low_below;
  second_above = m.second_above;
  high_above = m.high_above;
  first_in = sym (e m.first) ∙ m.first_in;
  second_in = sym (e m.second) ∙ m.second_in;
  low_out = sym (e m.low) ∙ m.low_out;
  high_out = sym (e m.high) ∙ m.high_out;
}

-- ---- no comparison stands for a mixed set

pub said : (r : Relation) (a b : ℤ) → holds r (int_cmp a b) ≡ true → Relates r a b
said r a b h = (holds_so r a b).1 h

pub denied : (r : Relation) (a b : ℤ) → holds r (int_cmp a b) ≡ false → Relates (opposite_relation r) a b
denied r a b h = (holds_so (opposite_relation r) a b).1 (opposite_holds r (int_cmp a b) ∙ ap not h)

module _ (S : ℤ → Bool) (m : IsMixed S) (g k : ℤ) (p : pos 0 <ℤ g) where
  met : (q : Relation) → ((n : ℤ) → holds q (int_cmp (g *ℤ n +ℤ k) (pos 0)) ≡ S n) → (n : ℤ) → S n ≡ true → Relates q (g *ℤ n +ℤ k) (pos 0)
  met q e n h = said q (g *ℤ n +ℤ k) (pos 0) (e n ∙ h)

  missed : (q : Relation) → ((n : ℤ) → holds q (int_cmp (g *ℤ n +ℤ k) (pos 0)) ≡ S n) → (n : ℤ) → S n ≡ false → Relates (opposite_relation q) (g *ℤ n +ℤ k) (pos 0)
  missed q e n h = denied q (g *ℤ n +ℤ k) (pos 0) (e n ∙ h)

  pub no_comparison : (q : Relation) → ((n : ℤ) → holds q (int_cmp (g *ℤ n +ℤ k) (pos 0)) ≡ S n) → ⊥
  no_comparison Equals e =
      let a = mul_less g p m.first_below in
      let u = met Equals e m.first m.first_in in
      let v = met Equals e m.second m.second_in in
      omega (arith, ints)
  no_comparison Differs e =
      let a = mul_less g p m.low_below in
      let u = missed Differs e m.low m.low_out in
      let v = missed Differs e m.high m.high_out in
      omega (arith, ints)
  no_comparison Below e =
      let a = mul_less g p m.second_above in
      let u = missed Below e m.low m.low_out in
      let v = met Below e m.second m.second_in in
      omega (arith, ints)
  no_comparison AtMost e =
      let a = mul_less g p m.second_above in
      let u = missed AtMost e m.low m.low_out in
      let v = met AtMost e m.second m.second_in in
      omega (arith, ints)
  no_comparison Above e =
      let a = mul_less g p m.high_above in
      let u = met Above e m.first m.first_in in
      let v = missed Above e m.high m.high_out in
      omega (arith, ints)
  no_comparison AtLeast e =
      let a = mul_less g p m.high_above in
      let u = met AtLeast e m.first m.first_in in
      let v = missed AtLeast e m.high m.high_out in
      omega (arith, ints)

-- ---- two thresholds with room between make a mixed set

-- seen from its threshold, a number at most e that meets the relation, and one that does not
pub record HasLower (r : Relation) (e : ℤ) : Type 0 where
  pub inside : ℤ
  pub outside : ℤ
  pub inside_at : inside ≤ℤ e
  pub outside_at : outside ≤ℤ e
  pub is_in : holds r (int_cmp inside (pos 0)) ≡ true
  pub is_out : holds r (int_cmp outside (pos 0)) ≡ false

-- and at least e
pub record HasUpper (r : Relation) (e : ℤ) : Type 0 where
  pub inside : ℤ
  pub outside : ℤ
  pub inside_at : e ≤ℤ inside
  pub outside_at : e ≤ℤ outside
  pub is_in : holds r (int_cmp inside (pos 0)) ≡ true
  pub is_out : holds r (int_cmp outside (pos 0)) ≡ false

pub lower_in_fields : (r : Relation) → holds r Greater ≡ true → HasLower r (pos 1)
lower_in_fields Equals h = absurd (cc)
lower_in_fields Differs h = record { inside = pos 1; outside = pos 0; inside_at = omega (arith, ints); outside_at = omega (arith, ints); is_in = refl; is_out = refl }
lower_in_fields Below h = absurd (cc)
lower_in_fields AtMost h = absurd (cc)
lower_in_fields Above h = record { inside = pos 1; outside = pos 0; inside_at = omega (arith, ints); outside_at = omega (arith, ints); is_in = refl; is_out = refl }
lower_in_fields AtLeast h = record { inside = pos 1; outside = negsuc 0; inside_at = omega (arith, ints); outside_at = omega (arith, ints); is_in = refl; is_out = refl }

pub upper_in_fields : (r : Relation) → holds r Less ≡ true → HasUpper r (negsuc 0)
upper_in_fields Equals h = absurd (cc)
upper_in_fields Differs h = record { inside = negsuc 0; outside = pos 0; inside_at = omega (arith, ints); outside_at = omega (arith, ints); is_in = refl; is_out = refl }
upper_in_fields Below h = record { inside = negsuc 0; outside = pos 0; inside_at = omega (arith, ints); outside_at = omega (arith, ints); is_in = refl; is_out = refl }
upper_in_fields AtMost h = record { inside = negsuc 0; outside = pos 1; inside_at = omega (arith, ints); outside_at = omega (arith, ints); is_in = refl; is_out = refl }
upper_in_fields Above h = absurd (cc)
upper_in_fields AtLeast h = absurd (cc)

-- the relations of the integers need less room
pub upper_over_integers : (r : Relation) → IsIntegerRelation r → holds r Less ≡ true → HasUpper r (pos 0)
upper_over_integers Equals i h = absurd (cc)
upper_over_integers Differs i h = record { inside = pos 1; outside = pos 0; inside_at = omega (arith, ints); outside_at = omega (arith, ints); is_in = refl; is_out = refl }
upper_over_integers Below i h = absurd i
upper_over_integers AtMost i h = record { inside = pos 0; outside = pos 1; inside_at = omega (arith, ints); outside_at = omega (arith, ints); is_in = refl; is_out = refl }
upper_over_integers Above i h = absurd (cc)
upper_over_integers AtLeast i h = absurd i

pub lower_of_differs : HasLower Differs (pos 0)
lower_of_differs = record { inside = negsuc 0; outside = pos 0; inside_at = omega (arith, ints); outside_at = omega (arith, ints); is_in = refl; is_out = refl }

-- the threshold of n + a lies below that of n + b, with room for what the relations need
module _ (r s : Relation) (e f a b : ℤ) (l : HasLower r e) (u : HasUpper s f) (x : pos 0 ≤ℤ e) (y : f ≤ℤ pos 0) (room : (e -ℤ a) <ℤ (f -ℤ b)) where
  both_at : ℤ → Bool
  both_at n = holds r (int_cmp (n +ℤ a) (pos 0)) && holds s (int_cmp (n +ℤ b) (pos 0))

  at_lower : (i : ℤ) → i ≤ℤ e → both_at (i -ℤ a) ≡ (holds r (int_cmp i (pos 0)) && holds s Less)
  unfolding both_at
  at_lower i h =
      let v : (i -ℤ a) +ℤ a ≡ i = omega (arith, ints) in
      let w : ((i -ℤ a) +ℤ b) <ℤ pos 0 = omega (arith, ints) in
      let z = compare_less w in
      λ j. holds r (int_cmp (v j) (pos 0)) && holds s (z j)

  at_upper : (i : ℤ) → f ≤ℤ i → both_at (i -ℤ b) ≡ (holds r Greater && holds s (int_cmp i (pos 0)))
  unfolding both_at
  at_upper i h =
      let v : (i -ℤ b) +ℤ b ≡ i = omega (arith, ints) in
      let w : pos 0 <ℤ ((i -ℤ b) +ℤ a) = omega (arith, ints) in
      let z = compare_more w in
      λ j. holds r (z j) && holds s (int_cmp (v j) (pos 0))

  pub room_is_mixed : holds r Greater ≡ true → holds s Less ≡ true → IsMixed (λ n. holds r (int_cmp (n +ℤ a) (pos 0)) && holds s (int_cmp (n +ℤ b) (pos 0)))
  unfolding both_at
  room_is_mixed g h =
      let ia = l.inside_at in
      let oa = l.outside_at in
      let ib = u.inside_at in
      let ob = u.outside_at in
      record {
        first = l.inside -ℤ a;
        second = u.inside -ℤ b;
        low = l.outside -ℤ a;
        high = u.outside -ℤ b;
        first_below = omega (arith, ints);
        low_below = omega (arith, ints);
        second_above = omega (arith, ints);
        high_above = omega (arith, ints);
        first_in = at_lower l.inside l.inside_at ∙ (λ j. l.is_in j && h j);
        second_in = at_upper u.inside u.inside_at ∙ (λ j. g j && u.is_in j);
        low_out = at_lower l.outside l.outside_at ∙ (λ j. l.is_out j && h j);
        high_out = at_upper u.outside u.outside_at ∙ (λ j. g j && u.is_out j);
      }

-- ---- each relation is met by some number

abbrev pub inside : Relation → ℤ
inside Equals = pos 0
inside Differs = pos 1
inside Below = negsuc 0
inside AtMost = pos 0
inside Above = pos 1
inside AtLeast = pos 0

pub inside_holds : (r : Relation) → holds r (int_cmp (inside r) (pos 0)) ≡ true
inside_holds Equals = refl
inside_holds Differs = refl
inside_holds Below = refl
inside_holds AtMost = refl
inside_holds Above = refl
inside_holds AtLeast = refl
