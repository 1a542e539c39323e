-- The answer for a target, from an equivalent formula; and no formula has two answers.
use Rattle.std.proofs.Common.{◌≡◌, ℕ, ◌<◌, Bool, true, false, if◌then◌else◌, [], ◌∷◌, None, refl, sym, ap, ◌∙◌, subst, arith, inl, inr, ⊎_elim, unsigned_abs}
use Rattle.std.proofs.Math.IntN.{ℤ, pos, ◌*ℤ◌}
use Rattle.std.specs.Prelude.{◌<ℤ◌}
use Rattle.std.proofs.lemmas.Int.{ints}
use Rattle.exact_numbers.specs.Frac.{Frac, IsLowest}
use Rattle.logic_meaning.specs.Context.{Fields}
use Rattle.logic_meaning.specs.Tree.{Tree}
use Rattle.formula_laws.specs.Equivalence.{Equivalent}
use Rattle.logic_meaning.specs.FieldsOrder.{IsLess}
use Rattle.logic_meaning.specs.Values.{origin}
use Rattle.logic_meaning.specs.Calculated.{is_less}
use Rattle.sample_reference.proofs.CriticalSets.{same_least}
use Rattle.sample_reference.proofs.Leasts.{Less, less_told}
use Rattle.sample_reference.proofs.SamePoints.{some_same, abs_positive, abs_above}
use Rattle.linear_theory.specs.WeakTargets.{exs, HasLeast}
use Rattle.linear_theory.specs.Answer.{Found, Infeasible, Unbounded, At, least_of, IsAnswer}
use Rattle.logic_meaning.specs.LeastFraction.{IsLeastFraction}
use Rattle.linear_theory.specs.Laws.{TargetIsFound, AnswersExclude}
use Rattle.linear_theory.proofs.Told.{far_map}
use Rattle.linear_theory.proofs.WeakTargets.{there, least_along, targets_suit}
use Rattle.linear_theory.proofs.LeastTheoryFound.{least_found}

-- ---- an equivalent formula

module _ (z : ℕ) (f g : Tree) (e : Equivalent Fields f g) where
  o : 0 < origin.below
  o = omega arith

  answer_along : (r : Found) → IsAnswer z g r → IsAnswer z f r
  answer_along Infeasible h = λ k m p t. h k m p ((there z f g origin o e k m p).0 t)
  answer_along Unbounded h = (
    far_map _ _ (λ k m p t. (there z f g origin o e k m p).1 t) h.0,
    λ k m p. let r = h.1 k m p in (r.0, r.1, r.2, r.3, (there z f g origin o e r.0 r.1 r.2).1 r.4),
  )
  answer_along (At v) h = record {
    proper = h.proper;
    lowest = h.lowest;
    least = least_along z f g origin o e v.numerator (unsigned_abs v.denominator) (abs_above v.denominator h.proper) h.least;
  }

  -- what has a least value, its equivalents have
  suits_along : HasLeast z f origin → HasLeast z g origin
  suits_along has far k m p t =
      let r = has (far_map _ _ (λ j n q n_there u. n_there ((there z f g origin o e j n q).0 u)) far) k m p ((there z f g origin o e k m p).1 t) in
      (r.0, r.1, r.2, least_along z g f origin o (λ q u. let i = e q u in (i.1, i.0)) r.0 r.1 r.2 r.3)

pub target_found : TargetIsFound
target_found z xs f g p w s i e =
    answer_along z (exs xs f) g e (least_of z g) (least_found z g s i (suits_along z (exs xs f) g e (targets_suit z xs f origin p w (omega arith))))

-- ---- one answer

-- two fractions in lowest terms of which none is less
module _ (z : ℕ) (f : Tree) (v w : Frac) (a : IsLeastFraction z f v) (b : IsLeastFraction z f w) where
  not_less_so : (v w : Frac) → IsLeastFraction z f v → IsLeastFraction z f w → ¬ (Less v w)
  not_less_so v w a b l =
      b.least.least v.numerator (unsigned_abs v.denominator) (abs_above v.denominator a.proper)
      (along v.numerator v.denominator w.numerator w.denominator (unsigned_abs v.denominator) (unsigned_abs w.denominator) (abs_positive v.denominator a.proper) (abs_positive w.denominator b.proper) l) a.least.holds
    where
      along : (j d k e : ℤ) (n m : ℕ) → pos n ≡ d → pos m ≡ e → (j *ℤ e) <ℤ (k *ℤ d) → IsLess j n k m
      along j d k e n m p q h = let g = ap (λ y. j *ℤ y) q in let i = ap (λ y. k *ℤ y) p in omega (arith, ints)

  kept : (v w : Frac) → ¬ (Less w v) → (if is_less w v then w else v) ≡ v
  kept v w n = go (is_less w v) refl
    where
      go : (t : Bool) → is_less w v ≡ t → (if t then w else v) ≡ v
      go true e = absurd (n (less_told w v e))
      go false e = refl

  one_least : v ≡ w
  one_least =
      let same = same_least None (v ∷ w ∷ []) (w ∷ v ∷ []) (record {
        first_proper = (a.proper, (b.proper, tt));
        second_proper = (b.proper, (a.proper, tt));
        lowest_terms = λ u. ⊎_elim (λ e. subst IsLowest e a.lowest) (⊎_elim (λ e. subst IsLowest e b.lowest) absurd);
        same = λ u. (
          ⊎_elim (λ e. inr (inl e)) (⊎_elim (λ e. inl e) absurd),
          ⊎_elim (λ e. inr (inl e)) (⊎_elim (λ e. inl e) absurd),
        );
      }) in
      sym (kept v w (not_less_so w v b a)) ∙ some_same _ _ same ∙ kept w v (not_less_so v w a b)

pub exclude : AnswersExclude
exclude z f Infeasible Infeasible a b = refl
exclude z f Unbounded Unbounded a b = refl
exclude z f (At v) (At w) a b = ap At (one_least z f v w a b)
exclude z f Infeasible Unbounded a b = let r = b.1 (pos 0) 1 (omega arith) in absurd (a r.0 r.1 r.2 r.4)
exclude z f Unbounded Infeasible a b = let r = a.1 (pos 0) 1 (omega arith) in absurd (b r.0 r.1 r.2 r.4)
exclude z f Infeasible (At w) a b = absurd (a w.numerator (unsigned_abs w.denominator) (abs_above w.denominator b.proper) b.least.holds)
exclude z f (At v) Infeasible a b = absurd (b v.numerator (unsigned_abs v.denominator) (abs_above v.denominator a.proper) a.least.holds)
exclude z f Unbounded (At w) a b = let r = a.1 w.numerator (unsigned_abs w.denominator) (abs_above w.denominator b.proper) in absurd (b.least.least r.0 r.1 r.2 r.3 r.4)
exclude z f (At v) Unbounded a b = let r = b.1 v.numerator (unsigned_abs v.denominator) (abs_above v.denominator a.proper) in absurd (a.least.least r.0 r.1 r.2 r.3 r.4)
