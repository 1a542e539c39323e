-- The sample of a residue class is one of the class of the sample with a multiple of the period, which fits each congruence.
use Rattle.std.proofs.Common.{◌≡◌, ℕ, ◌<◌, sym, subst, refl, arith, inl, inr, nat_eq, unsigned_abs}
use Rattle.std.proofs.Math.IntN.{ℤ, pos, negsuc, ◌+ℤ◌, ◌-ℤ◌, ◌*ℤ◌}
use Rattle.std.specs.Prelude.{◌<ℤ◌, ◌≤ℤ◌}
use Rattle.std.proofs.lemmas.Int.{ints}
use Rattle.exact_numbers.specs.Divides.{Divides}
use Rattle.exact_numbers.proofs.Ring.{mul_add, mul_assoc}
use Rattle.exact_numbers.proofs.Order.{mul_negative, mul_not_negative, at_most_mul}
use Rattle.exact_numbers.proofs.Divisibility.{divides_add, divides_along, divides_trans, divides_same, divides_mul, divides_zero}
use Rattle.logic_meaning.specs.Context.{Integers}
use Rattle.logic_meaning.specs.Point.{Point, move}
use Rattle.logic_meaning.specs.Form.{coefficient, value}
use Rattle.logic_meaning.specs.Atom.{Atom, Compare, Congruent}
use Rattle.logic_meaning.specs.Answer.{Periodic, Holds}
use Rattle.logic_meaning.specs.Tree.{Tree, TrueAt}
use Rattle.formula_laws.proofs.EachAtom.{every_map}
use Rattle.elimination_theory.specs.AtPlace.{at_place}
use Rattle.elimination_theory.specs.IntegersSample.{IsPast, LiesBeyond, ComesFirst, IsClassSample}
use Rattle.elimination_theory.proofs.IntegerSample.{sample_is_true}
use Rattle.case_theory.specs.ClassSample.{ClassSampleIsTrue}
use Rattle.case_theory.proofs.Fit.{along_times, period_times, not_zero, common_period}

-- ---- the same way

-- what comes first on the way of the period comes first on the way of a multiple
first_times : (q k w : ℤ) (d : ℕ) → 0 < d → ComesFirst q k w → ComesFirst (q *ℤ pos d) k w
first_times (pos a) k w d h f = go (pos a *ℤ pos d) refl
  where
    go : (r : ℤ) → pos a *ℤ pos d ≡ r → ComesFirst r k w
    go (pos r) e = f
    go (negsuc r) e = let n = mul_not_negative {a = pos a} {b = pos d} (omega (arith, ints)) (omega (arith, ints)) in absurd (omega (arith, ints))
first_times (negsuc a) k w d h f = go (negsuc a *ℤ pos d) refl
  where
    go : (r : ℤ) → negsuc a *ℤ pos d ≡ r → ComesFirst r k w
    go (pos r) e = let n = mul_negative {a = negsuc a} {b = pos d} (omega (arith, ints)) (omega (arith, ints)) in absurd (omega (arith, ints))
    go (negsuc r) e = f

module _ (x : ℕ) (q : ℤ) (d : ℕ) (h : 0 < d) (p : Point ℕ) (k : ℤ) where
  beyond_times : (a : Atom) → LiesBeyond x q p k a → LiesBeyond x (q *ℤ pos d) p k a
  beyond_times (Compare r f) b = subst (λ z. IsPast z (value f (move nat_eq p x k 1))) (sym (along_times q (coefficient x f) d h)) b
  beyond_times (Congruent holds n f) b = tt

  beyond_back : (a : Atom) → LiesBeyond x (q *ℤ pos d) p k a → LiesBeyond x q p k a
  beyond_back (Compare r f) b = subst (λ z. IsPast z (value f (move nat_eq p x k 1))) (along_times q (coefficient x f) d h) b
  beyond_back (Congruent holds n f) b = tt

-- ---- the class of a member

divides_self : (q k : ℤ) → Divides q (k -ℤ k)
divides_self q k = divides_along {d = q} {a = pos 0} {b = k -ℤ k} (omega (arith, ints)) (divides_zero q)

-- from a member of a member's class
member_on : (q w k j : ℤ) (d : ℕ) → Divides (q *ℤ pos d) (w -ℤ k) → Divides q (k -ℤ j) → Divides q (w -ℤ j)
member_on q w k j d a b =
    divides_along {d = q} {a = (w -ℤ k) +ℤ (k -ℤ j)} {b = w -ℤ j} (omega (arith, ints))
    (divides_add (divides_trans {a = q} {b = q *ℤ pos d} {c = w -ℤ k} (divides_mul (pos d) (divides_same q)) a) b)

module _ (x : ℕ) (j q : ℤ) (d : ℕ) (h : 0 < d) (f : Tree) (p : Point ℕ) (k : ℤ) where
  -- the sample is that of its own class with the multiple of the period
  sample_times : IsClassSample x j q f p k → IsClassSample x k (q *ℤ pos d) f p k
  sample_times (inl s) = inl (s.0, refl)
  sample_times (inr s) = inr (
    s.0,
    (divides_self (q *ℤ pos d) k, every_map _ _ (beyond_times x q d h p k) f s.1.1),
    λ w m. first_times q k w d h (s.2 w (member_on q w k j d m.0 s.1.0, every_map _ _ (beyond_back x q d h p w) f m.1)),
  )

  in_class : IsClassSample x j q f p k → Divides q (k -ℤ j)
  in_class (inl s) = subst (λ (i : ℤ). Divides q (k -ℤ i)) s.1 (divides_self q k)
  in_class (inr s) = s.1.0

-- the members of the new class are members of the old one
same_member : (j q k t n u d : ℤ) → k -ℤ j ≡ q *ℤ n → j +ℤ q *ℤ (n +ℤ d *ℤ t) ≡ k +ℤ (q *ℤ d) *ℤ t
same_member j q k t n u d e = let a = mul_add q n (d *ℤ t) in let b = mul_assoc q d t in omega (arith, ints)

far_enough : (u n t : ℤ) (d : ℕ) → 0 < d → pos (unsigned_abs (u -ℤ n)) <ℤ t → u <ℤ (n +ℤ pos d *ℤ t)
far_enough u n t d h l =
    let a = above (u -ℤ n) in
    let b = at_most_mul {a = pos d} {b = t} (omega (arith, ints)) (omega (arith, ints)) in
    omega (arith, ints)
  where
    above : (z : ℤ) → z ≤ℤ pos (unsigned_abs z)
    above (pos a) = omega (arith, ints)
    above (negsuc a) = omega (arith, ints)

holds_times : (x : ℕ) (j q k : ℤ) (d : ℕ) (f : Tree) (p : Point ℕ) → 0 < d → Divides q (k -ℤ j) → Holds Integers (at_place x (Periodic j q)) f p → Holds Integers (at_place x (Periodic k (q *ℤ pos d))) f p
holds_times x j q k d f p h m (u, far) = (
  pos (unsigned_abs (u -ℤ m.quotient)),
  λ t l. subst (λ z. TrueAt Integers f (move nat_eq p x (z *ℤ pos p.below) 1)) (same_member j q k t m.quotient u (pos d) m.exact)
      (far (m.quotient +ℤ pos d *ℤ t) (far_enough u m.quotient t d h l)),
)

pub class_sample_true : ClassSampleIsTrue
class_sample_true x j q f p k n plain inside o h s =
    let d = common_period x f inside in
    sample_is_true x (Periodic k (q *ℤ pos d.0)) f p k (not_zero x j q d.0 d.1 n) (every_map _ _ (period_times x j q d.0 d.1) f d.2) plain o
    (holds_times x j q k d.0 f p d.1 (in_class x j q d.0 d.1 f p k s) h) (sample_times x j q d.0 d.1 f p k s)
