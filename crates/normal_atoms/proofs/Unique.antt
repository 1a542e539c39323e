-- Over the integers a normal comparison that stands for v + y < 0 is v + (y + 1) <= 0.
use Rattle.std.proofs.Common.{◌≡◌, true, false, not, sym, ◌∙◌, ap, arith}
use Rattle.std.proofs.Math.IntN.{ℤ, pos, negsuc, ◌+ℤ◌, ◌-ℤ◌}
use Rattle.std.specs.Prelude.{◌<ℤ◌, ◌≤ℤ◌}
use Rattle.std.specs.Ordering.{int_cmp}
use Rattle.std.proofs.lemmas.Int.{ints}
use Rattle.exact_numbers.proofs.Order.{by_compare, compare_less}
use Rattle.logic_meaning.specs.Atom.{Relation, Equals, Differs, Below, AtMost, Above, AtLeast, opposite_relation}
use Rattle.logic_meaning.specs.NormalForm.{holds, IsIntegerRelation}
use Rattle.normal_atoms.proofs.Tables.{opposite_holds}
use Rattle.normal_atoms.proofs.Mixed.{said, denied}

below_true : (m : ℤ) → m <ℤ pos 0 → holds Below (int_cmp m (pos 0)) ≡ true
below_true m h = ap (holds Below) (compare_less h)

below_false : (m : ℤ) → pos 0 ≤ℤ m → holds Below (int_cmp m (pos 0)) ≡ false
below_false m h =
    by_compare m (pos 0)
    (λ (k : m <ℤ pos 0) e. absurd (omega (arith, ints)))
    (λ k e. ap (holds Below) e)
    (λ k e. ap (holds Below) e)

pub opposite_integer : (r : Relation) → IsIntegerRelation r → IsIntegerRelation (opposite_relation r)
opposite_integer Equals i = tt
opposite_integer Differs i = tt
opposite_integer Below i = absurd i
opposite_integer AtMost i = tt
opposite_integer Above i = tt
opposite_integer AtLeast i = absurd i

module _ (x y : ℤ) where
  inner : (q : Relation) → ((n : ℤ) → holds q (int_cmp (n +ℤ x) (pos 0)) ≡ holds Below (int_cmp (n +ℤ y) (pos 0))) → (n : ℤ) → (n +ℤ y) <ℤ pos 0 → holds q (int_cmp (n +ℤ x) (pos 0)) ≡ true
  inner q e n h = e n ∙ below_true (n +ℤ y) h

  outer : (q : Relation) → ((n : ℤ) → holds q (int_cmp (n +ℤ x) (pos 0)) ≡ holds Below (int_cmp (n +ℤ y) (pos 0))) → (n : ℤ) → pos 0 ≤ℤ (n +ℤ y) → holds q (int_cmp (n +ℤ x) (pos 0)) ≡ false
  outer q e n h = e n ∙ below_false (n +ℤ y) h

  pub unique_below : (q : Relation) → IsIntegerRelation q → ((n : ℤ) → holds q (int_cmp (n +ℤ x) (pos 0)) ≡ holds Below (int_cmp (n +ℤ y) (pos 0))) → x ≡ y +ℤ pos 1
  unique_below Equals i e =
      let a = said Equals ((negsuc 0 -ℤ y) +ℤ x) (pos 0) (inner Equals e (negsuc 0 -ℤ y) (omega (arith, ints))) in
      let b = said Equals ((negsuc 1 -ℤ y) +ℤ x) (pos 0) (inner Equals e (negsuc 1 -ℤ y) (omega (arith, ints))) in
      omega (arith, ints)
  unique_below Differs i e =
      let a = denied Differs ((pos 0 -ℤ y) +ℤ x) (pos 0) (outer Differs e (pos 0 -ℤ y) (omega (arith, ints))) in
      let b = denied Differs ((pos 1 -ℤ y) +ℤ x) (pos 0) (outer Differs e (pos 1 -ℤ y) (omega (arith, ints))) in
      omega (arith, ints)
  unique_below Below i e = absurd i
  unique_below AtMost i e =
      let a = said AtMost ((negsuc 0 -ℤ y) +ℤ x) (pos 0) (inner AtMost e (negsuc 0 -ℤ y) (omega (arith, ints))) in
      let b = denied AtMost ((pos 0 -ℤ y) +ℤ x) (pos 0) (outer AtMost e (pos 0 -ℤ y) (omega (arith, ints))) in
      omega (arith, ints)
  unique_below Above i e =
      let a = said Above ((negsuc 0 -ℤ y) +ℤ x) (pos 0) (inner Above e (negsuc 0 -ℤ y) (omega (arith, ints))) in
      let b = denied Above ((pos 0 -ℤ y) +ℤ x) (pos 0) (outer Above e (pos 0 -ℤ y) (omega (arith, ints))) in
      omega (arith, ints)
  unique_below AtLeast i e = absurd i

  -- and one that stands for v + y >= 0 is v + (y + 1) > 0
  pub unique_at_least : (q : Relation) → IsIntegerRelation q → ((n : ℤ) → holds q (int_cmp (n +ℤ x) (pos 0)) ≡ holds AtLeast (int_cmp (n +ℤ y) (pos 0))) → x ≡ y +ℤ pos 1
  unique_at_least q i e =
      unique_below (opposite_relation q) (opposite_integer q i)
      (λ n. opposite_holds q (int_cmp (n +ℤ x) (pos 0)) ∙ ap not (e n) ∙ sym (opposite_holds AtLeast (int_cmp (n +ℤ y) (pos 0))))
