-- The table of two congruences is right at each residue.
use Rattle.std.proofs.Common.{◌≡◌, ◌⊎◌, Bool, true, false, not, ◌&&◌, sym, subst, ◌∙◌, ap, refl, inl, inr, arith, if◌then◌else◌}
use Rattle.std.proofs.Math.IntN.{ℤ, pos, ◌-ℤ◌}
use Rattle.std.specs.Prelude.{◌<ℤ◌, ◌≤ℤ◌}
use Rattle.std.specs.Ordering.{int_eq}
use Rattle.std.specs.Cmp.{signed_Decides}
use Rattle.std.proofs.lemmas.Int.{ints}
use Rattle.exact_numbers.proofs.Order.{by_order}
use Rattle.linear_forms.proofs.Reduced.{by_equal}
use Rattle.normal_atoms.specs.declared.atom_merging_congruence.Class.{Class}
use Rattle.normal_atoms.specs.declared.atom_merging_congruence.Class.TheVariants.{Settled, First, Second, Third, Kept}
use Rattle.normal_atoms.specs.Classes.{different_classes, same_class, both_classes}

-- the test, or its opposite
abbrev pub told : Bool → Bool → Bool
told true a = a
told false a = not a

-- a residue by m
pub record IsClass (m x : ℤ) : Type 0 where
  pub not_negative : pos 0 ≤ℤ x
  pub below : x <ℤ m

pub same_test : (a b : ℤ) → a ≡ b → int_eq a b ≡ true
same_test a b e = (signed_Decides a b).1 e

pub test_same : (a b : ℤ) → int_eq a b ≡ true → a ≡ b
test_same a b e = (signed_Decides a b).0 e

pub other_test : (a b : ℤ) → ¬ (a ≡ b) → int_eq a b ≡ false
other_test a b n = by_equal (λ t. t ≡ false) a b (λ e. absurd (n e)) (λ _. refl)

equal_or_not : (a b : ℤ) → (a ≡ b) ⊎ (¬ (a ≡ b))
equal_or_not a b =
    by_order a b
    (λ (l : a <ℤ b). inr (λ (e : a ≡ b). omega (arith, ints)))
    (λ e. inl e)
    (λ (l : b <ℤ a). inr (λ (e : a ≡ b). omega (arith, ints)))

-- ---- what a class says

-- two residues in and two out
pub record IsSpread (m c e : ℤ) : Type 0 where
  pub first : ℤ
  pub second : ℤ
  pub first_class : IsClass m first
  pub second_class : IsClass m second
  pub differ : ¬ (first ≡ second)
  pub first_of : ¬ (c ≡ first) × ¬ (e ≡ first)
  pub second_of : ¬ (c ≡ second) × ¬ (e ≡ second)

-- some residue meets the congruence
pub record IsMet (m : ℤ) (b : Bool) (c : ℤ) : Type 0 where
  pub at : ℤ
  pub is_class : IsClass m at
  pub met : told b (int_eq c at) ≡ true

-- two incongruences, of four classes at least
pub record StaysApart (m : ℤ) (b : Bool) (c : ℤ) (d : Bool) (e : ℤ) : Type 0 where
  pub first_opposed : b ≡ false
  pub second_opposed : d ≡ false
  pub differ : ¬ (c ≡ e)
  pub spread : IsSpread m c e

-- two incongruences modulo 3
pub record LeavesThird (m : ℤ) (b : Bool) (c : ℤ) (d : Bool) (e : ℤ) : Type 0 where
  pub three : m ≡ pos 3
  pub third : (x : ℤ) → IsClass m x → int_eq ((pos 3 -ℤ c) -ℤ e) x ≡ (told b (int_eq c x) && told d (int_eq e x))
  pub is_class : IsClass m ((pos 3 -ℤ c) -ℤ e)

abbrev pub OnClasses : ℤ → Bool → ℤ → Bool → ℤ → Class → Type 0
OnClasses m b c d e Settled = (x : ℤ) → IsClass m x → (told b (int_eq c x) && told d (int_eq e x)) ≡ false
OnClasses m b c d e First = ((x : ℤ) → IsClass m x → told b (int_eq c x) ≡ (told b (int_eq c x) && told d (int_eq e x))) × IsMet m b c
OnClasses m b c d e Second = ((x : ℤ) → IsClass m x → told d (int_eq e x) ≡ (told b (int_eq c x) && told d (int_eq e x))) × IsMet m d e
OnClasses m b c d e Third = LeavesThird m b c d e
OnClasses m b c d e Kept = StaysApart m b c d e

-- ---- one class

and_same : (a : Bool) → a ≡ (a && a)
and_same true = refl
and_same false = refl

and_not : (a : Bool) → (a && not a) ≡ false
and_not true = refl
and_not false = refl

not_and : (a : Bool) → (not a && a) ≡ false
not_and true = refl
not_and false = refl

met_in : (m : ℤ) (b : Bool) (c : ℤ) → pos 1 <ℤ m → IsClass m c → IsMet m b c
met_in m true c p k = record { at = c; is_class = k; met = same_test c c refl }
met_in m false c p k =
    elim (equal_or_not c (pos 0)) [
      | inl e ↦ let n : ¬ (c ≡ pos 1) = λ (h : c ≡ pos 1). omega (arith, ints) in
          record { at = pos 1; is_class = record { not_negative = omega (arith, ints); below = omega (arith, ints) }; met = ap not (other_test c (pos 1) n) }
      | inr n ↦ record { at = pos 0; is_class = record { not_negative = omega (arith, ints); below = omega (arith, ints) }; met = ap not (other_test c (pos 0) n) }
    ]

one_class : (m : ℤ) (b : Bool) (c : ℤ) (d : Bool) → pos 1 <ℤ m → IsClass m c → OnClasses m b c d c (same_class b d)
one_class m true c true p k = (λ x h. and_same (int_eq c x), met_in m true c p k)
one_class m false c false p k = (λ x h. and_same (not (int_eq c x)), met_in m false c p k)
one_class m true c false p k = λ x h. and_not (int_eq c x)
one_class m false c true p k = λ x h. not_and (int_eq c x)

-- ---- different classes

module _ (m c e : ℤ) (p : pos 1 <ℤ m) (k : IsClass m c) (l : IsClass m e) (n : ¬ (c ≡ e)) where
  -- at most one of the two tests holds
  never_both : (x : ℤ) (P : Bool → Bool → Type 0) → (c ≡ x → P true false) → (e ≡ x → P false true) → (¬ (c ≡ x) → ¬ (e ≡ x) → P false false) → P (int_eq c x) (int_eq e x)
  never_both x P f g h =
      by_equal (λ a. P a (int_eq e x)) c x
      (λ q. by_equal (P true) e x (λ r. absurd (n (q ∙ sym r))) (λ _. f q))
      (λ q. by_equal (P false) e x (λ r. g r) (λ r. h q r))

  disjoint : (x : ℤ) → (int_eq c x && int_eq e x) ≡ false
  disjoint x = never_both x (λ a b. (a && b) ≡ false) (λ _. refl) (λ _. refl) (λ _ _. refl)

  first_within : (x : ℤ) → int_eq c x ≡ (int_eq c x && not (int_eq e x))
  first_within x = never_both x (λ a b. a ≡ (a && not b)) (λ _. refl) (λ _. refl) (λ _ _. refl)

  second_within : (x : ℤ) → int_eq e x ≡ (not (int_eq c x) && int_eq e x)
  second_within x = never_both x (λ a b. b ≡ (not a && b)) (λ _. refl) (λ _. refl) (λ _ _. refl)

  two_leave_none : m ≡ pos 2 → (x : ℤ) → IsClass m x → (not (int_eq c x) && not (int_eq e x)) ≡ false
  two_leave_none q x h =
      let a = k.not_negative in let b = k.below in let f = l.not_negative in let g = l.below in let u = h.not_negative in let v = h.below in
      never_both x (λ s t. (not s && not t) ≡ false) (λ _. refl) (λ _. refl) (λ y z. absurd (omega (arith, ints)))

  third_test : m ≡ pos 3 → (x : ℤ) → IsClass m x → int_eq ((pos 3 -ℤ c) -ℤ e) x ≡ (not (int_eq c x) && not (int_eq e x))
  third_test q x h =
      let a = k.not_negative in let b = k.below in let f = l.not_negative in let g = l.below in let u = h.not_negative in let v = h.below in
      never_both x (λ s t. int_eq ((pos 3 -ℤ c) -ℤ e) x ≡ (not s && not t))
      (λ (y : c ≡ x). other_test ((pos 3 -ℤ c) -ℤ e) x (λ (z : (pos 3 -ℤ c) -ℤ e ≡ x). omega (arith, ints)))
      (λ (y : e ≡ x). other_test ((pos 3 -ℤ c) -ℤ e) x (λ (z : (pos 3 -ℤ c) -ℤ e ≡ x). omega (arith, ints)))
      (λ y z. same_test ((pos 3 -ℤ c) -ℤ e) x (omega (arith, ints)))

  third_class : m ≡ pos 3 → IsClass m ((pos 3 -ℤ c) -ℤ e)
  third_class q =
      let a = k.not_negative in let b = k.below in let f = l.not_negative in let g = l.below in
      record { not_negative = omega (arith, ints); below = omega (arith, ints) }

-- two numbers from 1 to 3 that are not z
record HasTwo (z : ℤ) : Type 0 where
  one : ℤ
  other : ℤ
  one_low : pos 1 ≤ℤ one
  one_high : one ≤ℤ pos 3
  other_low : pos 1 ≤ℤ other
  other_high : other ≤ℤ pos 3
  apart : ¬ (one ≡ other)
  not_one : ¬ (z ≡ one)
  not_other : ¬ (z ≡ other)

two_beside : (z : ℤ) → HasTwo z
two_beside z =
    elim (equal_or_not z (pos 1)) [
      | inl e ↦ record {
        one = pos 2;
        other = pos 3;
        one_low = omega (arith, ints);
        one_high = omega (arith, ints);
        other_low = omega (arith, ints);
        other_high = omega (arith, ints);
        apart = λ (h : pos 2 ≡ pos 3). omega (arith, ints);
        not_one = λ (h : z ≡ pos 2). omega (arith, ints);
        not_other = λ (h : z ≡ pos 3). omega (arith, ints);
      }
      | inr n ↦ elim (equal_or_not z (pos 2)) [
        | inl e ↦ record {
          one = pos 1;
          other = pos 3;
          one_low = omega (arith, ints);
          one_high = omega (arith, ints);
          other_low = omega (arith, ints);
          other_high = omega (arith, ints);
          apart = λ (h : pos 1 ≡ pos 3). omega (arith, ints);
          not_one = n;
          not_other = λ (h : z ≡ pos 3). omega (arith, ints);
        }
        | inr k ↦ record {
          one = pos 1;
          other = pos 2;
          one_low = omega (arith, ints);
          one_high = omega (arith, ints);
          other_low = omega (arith, ints);
          other_high = omega (arith, ints);
          apart = λ (h : pos 1 ≡ pos 2). omega (arith, ints);
          not_one = n;
          not_other = k;
        }
      ]
    ]

-- a number from 1 to 3 that is neither
record HasOne (c e : ℤ) : Type 0 where
  one : ℤ
  low : pos 1 ≤ℤ one
  high : one ≤ℤ pos 3
  not_first : ¬ (c ≡ one)
  not_second : ¬ (e ≡ one)

one_beside : (c e : ℤ) → HasOne c e
one_beside c e =
    let t = two_beside c in
    elim (equal_or_not e t.one) [
      | inl h ↦ record { one = t.other; low = t.other_low; high = t.other_high; not_first = t.not_other; not_second = λ k. t.apart (sym h ∙ k) }
      | inr n ↦ record { one = t.one; low = t.one_low; high = t.one_high; not_first = t.not_one; not_second = n }
    ]

low_class : (m x : ℤ) → pos 4 ≤ℤ m → pos 0 ≤ℤ x → x ≤ℤ pos 3 → IsClass m x
low_class m x p a b = record { not_negative = a; below = omega (arith, ints) }

from_one : (x : ℤ) → pos 1 ≤ℤ x → pos 0 ≤ℤ x
from_one x h = omega (arith, ints)

-- where one of the two classes is 0
beside_zero : (m c e : ℤ) → pos 4 ≤ℤ m → c ≡ pos 0 → IsSpread m c e
beside_zero m c e p h =
    let t = two_beside e in
    let a = t.one_low in let b = t.other_low in
    record {
      first = t.one;
      second = t.other;
      first_class = low_class m t.one p (from_one t.one t.one_low) t.one_high;
      second_class = low_class m t.other p (from_one t.other t.other_low) t.other_high;
      differ = t.apart;
      first_of = (not_zero t.one t.one_low, t.not_one);
      second_of = (not_zero t.other t.other_low, t.not_other);
    }
  where
    not_zero : (x : ℤ) → pos 1 ≤ℤ x → ¬ (c ≡ x)
    not_zero x l = λ (q : c ≡ x). omega (arith, ints)

spread_of_four : (m c e : ℤ) → pos 4 ≤ℤ m → IsSpread m c e
spread_of_four m c e p =
    elim (equal_or_not c (pos 0)) [
      | inl h ↦ beside_zero m c e p h
      | inr n ↦ elim (equal_or_not e (pos 0)) [
        | inl h ↦ let s = beside_zero m e c p h in
            record { first = s.first; second = s.second; first_class = s.first_class; second_class = s.second_class; differ = s.differ; first_of = (s.first_of.1, s.first_of.0); second_of = (s.second_of.1, s.second_of.0) }
        | inr k ↦ let t = one_beside c e in
            record {
              first = pos 0;
              second = t.one;
              first_class = low_class m (pos 0) p (omega (arith, ints)) (omega (arith, ints));
              second_class = low_class m t.one p (from_one t.one t.low) t.high;
              differ = above t.one t.low;
              first_of = (n, k);
              second_of = (t.not_first, t.not_second);
            }
      ]
    ]
  where
    above : (x : ℤ) → pos 1 ≤ℤ x → ¬ (pos 0 ≡ x)
    above x l = λ (q : pos 0 ≡ x). omega (arith, ints)

four_at_least : (m : ℤ) → pos 1 <ℤ m → ¬ (m ≡ pos 2) → ¬ (m ≡ pos 3) → pos 4 ≤ℤ m
four_at_least m p a b = omega (arith, ints)

other_classes : (m c e : ℤ) (b d : Bool) → pos 1 <ℤ m → IsClass m c → IsClass m e → ¬ (c ≡ e) → OnClasses m b c d e (different_classes m b d)
other_classes m c e true true p k l n = λ x h. disjoint m c e p k l n x
other_classes m c e true false p k l n = (λ x h. first_within m c e p k l n x, met_in m true c p k)
other_classes m c e false true p k l n = (λ x h. second_within m c e p k l n x, met_in m true e p l)
other_classes m c e false false p k l n =
    by_equal (λ t. OnClasses m false c false e (if t then Settled else if int_eq m (pos 3) then Third else Kept)) m (pos 2)
    (λ q. two_leave_none m c e p k l n q)
    (λ q. by_equal (λ t. OnClasses m false c false e (if t then Third else Kept)) m (pos 3)
    (λ r. record { three = r; third = third_test m c e p k l n r; is_class = third_class m c e p k l n r })
    (λ r. record { first_opposed = refl; second_opposed = refl; differ = n; spread = spread_of_four m c e (four_at_least m p q r) }))

-- the table of two congruences is right
pub classes_judged : (m : ℤ) (b : Bool) (c : ℤ) (d : Bool) (e : ℤ) → pos 1 <ℤ m → IsClass m c → IsClass m e → OnClasses m b c d e (both_classes m b c d e)
classes_judged m b c d e p k l =
    by_equal (λ t. OnClasses m b c d e (if t then same_class b d else different_classes m b d)) c e
    (λ q. subst (λ x. OnClasses m b c d x (same_class b d)) q (one_class m b c d p k))
    (λ q. other_classes m c e b d p k l q)
