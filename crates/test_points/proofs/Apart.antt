-- Residue classes stand once each, and none is the number beside an end.
use Rattle.std.proofs.Common.{◌≡◌, ℕ, zero, suc, ◌<◌, Bool, true, false, List, [], ◌∷◌, ◌++◌, ◌&&◌, map, flat_map, refl, ap, ◌∙◌, arith, if◌then◌else◌}
use Rattle.std.proofs.Math.IntN.{ℤ, pos, neg_ℤ}
use Rattle.std.proofs.lemmas.Int.{ints}
use Rattle.std.specs.Ordering.{int_eq}
use Rattle.std.specs.Cmp.{signed_Decides}
use Rattle.logic_meaning.specs.Some.{EachOf}
use Rattle.logic_meaning.specs.Form.{Form, plus}
use Rattle.logic_meaning.specs.Answer.{Place, Exact, Periodic, same_place}
use Rattle.logic_meaning.specs.Distinct.{without_same, distinct}
use Rattle.logic_meaning.specs.declared.side.Side.{Side}
use Rattle.logic_meaning.specs.IntegersPoints.{signed, counted, class_points, next_points}
use Rattle.elimination_theory.proofs.SomeListed.{each_append, each_map, each_mapped, each_flat_map, each_distinct}

-- ---- a list in front of others

module _ {X : Type 0} (same : X → X → Bool) where
  -- no element is the same as x
  abbrev NoneLike : X → List X → Type 0
  NoneLike x ys = EachOf (λ y. same x y ≡ false) ys

  -- each element is unlike those after it
  abbrev pub Apart : List X → List X → Type 0
  Apart [] ys = Unit {0}
  Apart (x ∷ xs) ys = NoneLike x (xs ++ ys) × Apart xs ys

  none_gone : (x : X) (ys : List X) → NoneLike x ys → without_same same x ys ≡ ys
  none_gone x [] h = refl
  none_gone x (y ∷ ys) h = ap (λ (b : Bool). if b then without_same same x ys else y ∷ without_same same x ys) h.0 ∙ ap (λ (l : List X). y ∷ l) (none_gone x ys h.1)

  pub distinct_behind : (xs ys : List X) → Apart xs (distinct same ys) → distinct same (xs ++ ys) ≡ xs ++ distinct same ys
  distinct_behind [] ys h = refl
  distinct_behind (x ∷ xs) ys h = ap (λ (l : List X). x ∷ l) (ap (without_same same x) (distinct_behind xs ys h.1) ∙ none_gone x (xs ++ distinct same ys) h.0)

-- ---- residue classes

other_number : (a b : ℤ) → ¬ (a ≡ b) → (t : Bool) → int_eq a b ≡ t → t ≡ false
other_number a b n true e = absurd (n ((signed_Decides a b).0 e))
other_number a b n false e = refl

signed_apart : (side : Side) (k j : ℕ) → k < j → ¬ (signed side (pos k) ≡ signed side (pos j))
signed_apart Side.Lower k j h = λ (e : pos k ≡ pos j). omega (arith, ints)
signed_apart Side.Upper k j h = λ (e : neg_ℤ (pos k) ≡ neg_ℤ (pos j)). omega (arith, ints)

-- the place is of no residue class
abbrev IsNoClass : Place → Type 0
IsNoClass s = (a q : ℤ) → same_place (Periodic a q) s ≡ false

module _ (side : Side) (q : ℤ) where
  abbrev class : ℕ → Place
  class j = Periodic (signed side (pos j)) q

  later_class : (k j : ℕ) → k < j → same_place (class k) (class j) ≡ false
  later_class k j h =
      ap (λ (t : Bool). t && int_eq q q) (other_number (signed side (pos k)) (signed side (pos j)) (signed_apart side k j h) (int_eq (signed side (pos k)) (signed side (pos j))) refl)

  later_classes : (k first n : ℕ) → k < first → EachOf (λ s. same_place (class k) s ≡ false) (map class (counted first n))
  later_classes k first zero h = tt
  later_classes k first (suc n) h = (later_class k first h, later_classes k (suc first) n (omega arith))

  classes_apart : (first n : ℕ) (ends : List Place) → EachOf IsNoClass ends → Apart same_place (map class (counted first n)) ends
  classes_apart first zero ends h = tt
  classes_apart first (suc n) ends h = (
    each_append (λ s. same_place (class first) s ≡ false) (map class (counted (suc first) n)) ends (later_classes first (suc first) n (omega arith)) (each_map IsNoClass (λ s. same_place (class first) s ≡ false) (λ s g. g (signed side (pos first)) q) ends h),
    classes_apart (suc first) n ends h,
  )

-- ---- the numbers beside ends

beside_ends : (side : Side) (l d : ℕ) (forms : List Form) → EachOf IsNoClass (flat_map (next_points side l d) forms)
beside_ends side l d forms = each_flat_map IsNoClass (next_points side l d) forms (λ b. each_mapped IsNoClass (λ j. Exact (plus b (signed side (pos j))) l) (counted 1 d) (λ j a q. refl))

pub classes_first : (side : Side) (n l d : ℕ) (forms : List Form) →
    distinct same_place (class_points side n ++ flat_map (next_points side l d) forms) ≡ class_points side n ++ distinct same_place (flat_map (next_points side l d) forms)
classes_first side n l d forms =
    let ends = flat_map (next_points side l d) forms in
    distinct_behind same_place (class_points side n) ends (classes_apart side (signed side (neg_ℤ (pos n))) 1 n (distinct same_place ends) (each_distinct same_place IsNoClass ends (beside_ends side l d forms)))
