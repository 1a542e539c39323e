-- The calculated answer is the least value.
use Rattle.std.proofs.Common.{◌≡◌, ℕ, suc, zero, ◌<◌, Bool, true, false, cond, if◌then◌else◌, List, [], ◌∷◌, filter, Option, Some, None, sym, ap, ◌∙◌, subst, refl, arith, inl, inr, unsigned_abs}
use Rattle.std.proofs.Math.IntN.{ℤ, pos, negsuc, neg_ℤ, ◌-ℤ◌, ◌*ℤ◌}
use Rattle.std.specs.Prelude.{◌<ℤ◌, ◌≤ℤ◌}
use Rattle.std.proofs.lemmas.Int.{ints}
use Rattle.exact_numbers.specs.Frac.{Frac, IsProper, IsLowest}
use Rattle.exact_numbers.proofs.Order.{by_less}
use Rattle.exact_numbers.proofs.FractionRule.{lowest_is}
use Rattle.exact_numbers.proofs.Ring.{sub_mul, mul_comm}
use Rattle.logic_meaning.specs.Context.{Fields}
use Rattle.logic_meaning.specs.Some.{Among, EachOf}
use Rattle.logic_meaning.specs.Form.{coefficient}
use Rattle.logic_meaning.specs.Shape.{IsQuantifierFree}
use Rattle.logic_meaning.specs.Atom.{Atom, Compare, Congruent}
use Rattle.logic_meaning.specs.Tree.{Tree}
use Rattle.formula_laws.specs.Equivalence.{InContext}
use Rattle.formula_laws.proofs.Listed.{some_among}
use Rattle.logic_meaning.specs.Atoms.{atoms_in}
use Rattle.logic_meaning.specs.FieldsOrder.{IsLess}
use Rattle.elimination_theory.proofs.FieldsMeet.{pos_positive}
use Rattle.elimination_theory.proofs.Fractions.{less_at_most, less_less, at_most_at_most}
use Rattle.logic_meaning.specs.Values.{origin}
use Rattle.logic_meaning.specs.Calculated.{root_of, atom_root, critical_values, least_with}
use Rattle.sample_reference.proofs.Critical.{roots_proper, from_atom}
use Rattle.sample_reference.proofs.Leasts.{IsFirst, first_of, none_at_all}
use Rattle.sample_reference.proofs.SamePoints.{some_same, none_some, abs_positive}
use Rattle.logic_meaning.specs.Target.{TargetAt, IsUnbounded}
use Rattle.linear_theory.specs.WeakTargets.{IsFalseFarBelow, IsTrueFarBelow, HasLeast}
use Rattle.linear_theory.specs.Answer.{is_true_at, is_true_far, truth_by, true_values, found, IsAnswer, Unbounded}
use Rattle.logic_meaning.specs.LeastFraction.{IsLeastFraction}
use Rattle.linear_theory.specs.Laws.{LeastIsFound}
use Rattle.linear_theory.proofs.Told.{told_at, told_far, far_map}
use Rattle.linear_theory.proofs.Roots.{least_root}

-- ---- elements that pass a test

pub among_filter : (test : Frac → Bool) (vs : List Frac) (v : Frac) → Among vs v → test v ≡ true → Among (filter test vs) v
among_filter test [] v m e = absurd m
among_filter test (w ∷ vs) v m e = go (test w) refl (λ n. among_filter test vs v n e) m
  where
    go : (b : Bool) → test w ≡ b → (Among vs v → Among (filter test vs) v) → Among (w ∷ vs) v → Among (cond b (w ∷ filter test vs) (filter test vs)) v
    go true f ih (inl i) = inl i
    go true f ih (inr n) = inr (ih n)
    go false f ih (inl i) = absurd (cc (f, e, ap test i))
    go false f ih (inr n) = ih n

pub filter_among : (test : Frac → Bool) (vs : List Frac) (v : Frac) → Among (filter test vs) v → Among vs v × (test v ≡ true)
filter_among test [] v m = absurd m
filter_among test (w ∷ vs) v m = go (test w) refl (filter_among test vs v) m
  where
    go : (b : Bool) → test w ≡ b → (Among (filter test vs) v → Among vs v × (test v ≡ true)) → Among (cond b (w ∷ filter test vs) (filter test vs)) v → Among (w ∷ vs) v × (test v ≡ true)
    go true f ih (inl i) = (inl i, sym (ap test i) ∙ f)
    go true f ih (inr n) = let r = ih n in (inr r.0, r.1)
    go false f ih n = let r = ih n in (inr r.0, r.1)

pub filter_each : (P : Frac → Type 0) (test : Frac → Bool) (vs : List Frac) → EachOf P vs → EachOf P (filter test vs)
filter_each P test [] h = tt
filter_each P test (v ∷ vs) h = go (test v) (filter_each P test vs h.1)
  where
    go : (b : Bool) → EachOf P (filter test vs) → EachOf P (cond b (v ∷ filter test vs) (filter test vs))
    go true i = (h.0, i)
    go false i = i

-- ---- critical values are in lowest terms

root_lowest : (a t : ℤ) (w : Frac) → root_of a t ≡ Some w → IsLowest w
root_lowest (pos zero) t w e = none_some w e
root_lowest (pos (suc n)) t w e = subst IsLowest (some_same _ w e) (lowest_is (neg_ℤ t) (pos (suc n)) (omega (arith, ints)))
root_lowest (negsuc n) t w e = subst IsLowest (some_same _ w e) (lowest_is t (pos (suc n)) (omega (arith, ints)))

atom_lowest : (x : ℕ) (a : Atom) (w : Frac) → atom_root x a ≡ Some w → IsLowest w
atom_lowest x (Compare r f) w e = root_lowest (coefficient x f) f.constant w e
atom_lowest x (Congruent holds n f) w e = none_some w e

pub critical_lowest : (x : ℕ) (atoms : List Atom) (w : Frac) → Among (critical_values x atoms) w → IsLowest w
critical_lowest x atoms w m = let r = some_among (λ a. atom_root x a ≡ Some w) atoms (from_atom x origin atoms w m) in atom_lowest x r.0 w r.2

-- ---- far below

one_less : (k : ℤ) (m : ℕ) → 0 < m → IsLess (k -ℤ pos 1) m k m
one_less k m h = let a = sub_mul k (pos 1) (pos m) in let b = mul_comm (pos 1) (pos m) in omega (arith, ints)

-- what is true far below is true below every number
below_every : (z : ℕ) (f : Tree) → IsTrueFarBelow z f origin → IsUnbounded z f origin
below_every z f a k m h = go a.0 a.1 a.2 a.3
  where
    go : (u : ℤ) (w : ℕ) → 0 < w → ((j : ℤ) (n : ℕ) → 0 < n → IsLess j n u w → TargetAt z f origin j n) → (j : ℤ) × (n : ℕ) × 0 < n × IsLess j n k m × TargetAt z f origin j n
    go u w pw t =
        by_less (k *ℤ pos w) (u *ℤ pos m)
        (λ (l : (k *ℤ pos w) <ℤ (u *ℤ pos m)). (
          k -ℤ pos 1,
          m,
          h,
          one_less k m h,
          t (k -ℤ pos 1) m h (less_less (k -ℤ pos 1) (pos m) k (pos m) u (pos w) (pos_positive h) (pos_positive h) (pos_positive pw) (one_less k m h) l),
        ))
        (λ (l : (u *ℤ pos m) ≤ℤ (k *ℤ pos w)). (
          u -ℤ pos 1,
          w,
          pw,
          less_at_most (u -ℤ pos 1) (pos w) u (pos w) k (pos m) (pos_positive pw) (pos_positive pw) (pos_positive h) (one_less u w pw) l,
          t (u -ℤ pos 1) w pw (one_less u w pw),
        ))

-- ---- the answer

not_less : (a b c d : ℤ) → ¬ ((a *ℤ d) <ℤ (c *ℤ b)) → (c *ℤ b) ≤ℤ (a *ℤ d)
not_less a b c d n = by_less (a *ℤ d) (c *ℤ b) (λ (l : (a *ℤ d) <ℤ (c *ℤ b)). absurd (n l)) (λ (l : (c *ℤ b) ≤ℤ (a *ℤ d)). l)

module _ (z : ℕ) (f : Tree) (s : IsQuantifierFree f) (i : InContext Fields f) (has : HasLeast z f origin) where
  far_true : truth_by (is_true_far z) f ≡ true → IsTrueFarBelow z f origin
  far_true e = far_map _ _ (λ k m h t. t.0 e) (told_far z f s i)

  far_false : truth_by (is_true_far z) f ≡ false → IsFalseFarBelow z f origin
  far_false e = far_map _ _ (λ k m h t u. cc (t.1 u, e)) (told_far z f s i)

  -- a true critical value is listed
  listed : (v : Frac) → IsProper v → Among (critical_values z (atoms_in f)) v → TargetAt z f origin v.numerator (unsigned_abs v.denominator) → Among (true_values z f) v
  listed v p m t =
      among_filter (λ w. truth_by (is_true_at z w) f) (critical_values z (atoms_in f)) v m
      ((told_at z v (unsigned_abs v.denominator) (sym (abs_positive v.denominator p)) f s i).1 t)

  values_proper : EachOf IsProper (true_values z f)
  values_proper = filter_each IsProper (λ w. truth_by (is_true_at z w) f) (critical_values z (atoms_in f)) (roots_proper z origin (atoms_in f))

  -- below a true value there is a true critical value
  record Under (k : ℤ) (m : ℕ) : Type 0 where
    value : Frac
    proper : IsProper value
    is_listed : Among (true_values z f) value
    before : (value.numerator *ℤ pos m) ≤ℤ (k *ℤ value.denominator)

  under : IsFalseFarBelow z f origin → (k : ℤ) (m : ℕ) → 0 < m → TargetAt z f origin k m → Under k m
  under far k m h t =
      let l = has far k m h t in
      let r = least_root z f s i l.0 l.1 l.2 l.3 in
      let v : Frac = r.root in
      record {
        value = v;
        proper = r.proper;
        is_listed = listed v r.proper r.among r.true_there;
        before = at_most_at_most v.numerator v.denominator l.0 (pos l.1) k (pos m) r.proper (pos_positive l.2) (pos_positive h) r.before
            (not_less k (pos m) l.0 (pos l.1) (λ less. l.3.least k m h less t));
      }

  over : (n : ℤ) (a : ℕ) (d k : ℤ) (m : ℕ) → pos a ≡ d → (n *ℤ pos m) ≤ℤ (k *ℤ d) → IsLess k m n a → ⊥
  over n a d k m e h l = let g = ap (λ y. k *ℤ y) e in omega (arith, ints)

  first_least : IsFalseFarBelow z f origin → (v : Frac) → IsFirst (true_values z f) v → IsLeastFraction z f v
  first_least far v w =
      let m = filter_among (λ u. truth_by (is_true_at z u) f) (critical_values z (atoms_in f)) v w.among in
      let a = abs_positive v.denominator w.proper in
      record {
        proper = w.proper;
        lowest = critical_lowest z (atoms_in f) v m.0;
        least = record {
          holds = (told_at z v (unsigned_abs v.denominator) (sym a) f s i).0 m.1;
          least = λ k n h less t.
              let r = under far k n h t in
              let u : Frac = r.value in
              over v.numerator (unsigned_abs v.denominator) v.denominator k n a
              (at_most_at_most v.numerator v.denominator u.numerator u.denominator k (pos n) w.proper r.proper (pos_positive h) (w.first u r.is_listed) r.before) less;
        };
      }

  answer_by : IsFalseFarBelow z f origin → (o : Option Frac) → least_with None (true_values z f) ≡ o → IsAnswer z f (found o)
  answer_by far None e = λ k m h t. let r = under far k m h t in none_at_all (true_values z f) r.value e r.is_listed
  answer_by far (Some v) e = first_least far v (first_of (true_values z f) v values_proper e)

  answer : (b : Bool) → truth_by (is_true_far z) f ≡ b → IsAnswer z f (if b then Unbounded else found (least_with None (true_values z f)))
  answer true e = let t = far_true e in (t, below_every z f t)
  answer false e = answer_by (far_false e) (least_with None (true_values z f)) refl

pub least_found : LeastIsFound
least_found z f s i has = answer z f s i has (truth_by (is_true_far z) f) refl
