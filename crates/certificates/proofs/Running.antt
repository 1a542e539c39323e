-- The sum of the multiples so far, held sorted, while some constraints and multipliers are left.
use Rattle.std.proofs.Common.{◌≡◌, ◌⊎◌, inl, inr, List, [], ◌∷◌, ap, sym, ◌∙◌, subst, refl, ⊎_elim}
use Rattle.std.proofs.Math.IntN.{ℤ, pos}
use Rattle.logic_meaning.specs.Combining.{CombinePasses}
use Rattle.logic_meaning.specs.Form.{Form, combine}
use Rattle.logic_meaning.specs.Sorted.{IsSorted, gathered}
use Rattle.formula_laws.proofs.Gathered.{sorted_stays}
use Rattle.linear_forms.specs.Combinations.{IsCombination}
use Rattle.logic_meaning.specs.Constraints.{Constraint}
use Rattle.logic_meaning.specs.Farkas.{nothing, sum_from, SumPasses}
use Rattle.linear_theory.proofs.Sums.{sum_from_same, sum_passes_same}
use Rattle.certificates.proofs.Combined.{combined, not_passed}

-- s is the sum so far, sorted, and the constraints and multipliers that are left lead to the same sum and pass the limit where all do
pub record IsRunning (cs : List Constraint) (ms : List ℤ) (s : Form) (rest : List Constraint) (left : List ℤ) : Type 0 where
  pub sorted : IsSorted s
  pub sum : gathered (sum_from s rest left) ≡ gathered (sum_from nothing cs ms)
  pub passes : SumPasses s rest left → SumPasses nothing cs ms
  pub passes_still : SumPasses nothing cs ms → SumPasses s rest left

module _ (cs : List Constraint) (ms : List ℤ) where
  pub starts : (s : Form) → s ≡ nothing → IsRunning cs ms s cs ms
  starts s e = subst (λ (s : Form). IsRunning cs ms s cs ms) (sym e) (record { sorted = record { rising = tt; nonzero = tt }; sum = refl; passes = λ h. h; passes_still = λ h. h })

  module _ (s : Form) (c : Constraint) (rest : List Constraint) (m : ℤ) (left : List ℤ) (h : IsRunning cs ms s (c ∷ rest) (m ∷ left)) where
    -- one multiple more
    pub goes_on : (r : Form) → IsCombination (pos 1) s m c.form r → IsRunning cs ms r rest left
    unfolding sum_from
    goes_on r k =
        let e : gathered r ≡ gathered (combine (pos 1) s m c.form) = sorted_stays r k.linear.sorted ∙ combined (pos 1) s m c.form r k in
        record {
          sorted = k.linear.sorted;
          sum = sum_from_same rest left r (combine (pos 1) s m c.form) e ∙ h.sum;
          passes = λ p. h.passes (inr (sum_passes_same rest left r (combine (pos 1) s m c.form) e p));
          passes_still = λ p. ⊎_elim (λ q. absurd (not_passed (pos 1) s m c.form k.within q)) (λ q. sum_passes_same rest left (combine (pos 1) s m c.form) r (sym e) q) (h.passes_still p);
        }

    -- a number passes the limit
    pub stops : CombinePasses (pos 1) s m c.form → SumPasses nothing cs ms
    stops p = h.passes (inl p)

  -- either list is at its end
  module _ (s : Form) (rest : List Constraint) (left : List ℤ) (h : IsRunning cs ms s rest left) (e : (rest ≡ []) ⊎ (left ≡ [])) where
    ended : (rest : List Constraint) (left : List ℤ) → (rest ≡ []) ⊎ (left ≡ []) → (sum_from s rest left ≡ s) × (¬ (SumPasses s rest left))
    unfolding sum_from
    ended [] left e = (refl, λ p. p)
    ended (c ∷ cs) [] e = (refl, λ p. p)
    ended (c ∷ cs) (m ∷ ms) e = absurd (⊎_elim (λ q. cc) (λ q. cc) e)

    pub is_sum : s ≡ gathered (sum_from nothing cs ms)
    is_sum = sym (sorted_stays s h.sorted) ∙ ap gathered (sym (ended rest left e).0) ∙ h.sum

    pub is_within : ¬ (SumPasses nothing cs ms)
    is_within p = (ended rest left e).1 (h.passes_still p)
