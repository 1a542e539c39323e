-- Sums of multiples depend on the coefficients and the constant of the form that they begin with alone.
use Rattle.std.proofs.Common.{◌≡◌, inl, inr, ℕ, List, [], ◌∷◌, ap, sym, ◌∙◌, subst}
use Rattle.std.proofs.Math.IntN.{ℤ, pos, ◌*ℤ◌}
use Rattle.logic_meaning.specs.Combining.{AddPasses, CombinePasses}
use Rattle.logic_meaning.specs.Form.{Form, coefficient, combine}
use Rattle.logic_meaning.specs.Sorted.{gathered}
use Rattle.formula_laws.proofs.Gathered.{coefficient_gathered, constant_gathered, gathered_combine}
use Rattle.logic_meaning.specs.Constraints.{Constraint}
use Rattle.logic_meaning.specs.Farkas.{sum_from, SumPasses}

-- two forms with one sorted form have the same coefficients
pub same_coefficient : (s t : Form) → gathered s ≡ gathered t → (x : ℕ) → coefficient x s ≡ coefficient x t
same_coefficient s t e x = sym (coefficient_gathered x s) ∙ ap (λ (f : Form). coefficient x f) e ∙ coefficient_gathered x t

-- and the same constant
pub same_constant : (s t : Form) → gathered s ≡ gathered t → s.constant ≡ t.constant
same_constant s t e = sym (constant_gathered s) ∙ ap (λ (f : Form). f.constant) e ∙ constant_gathered t

module _ (a m : ℤ) (s t f : Form) (e : gathered s ≡ gathered t) where
  -- so have their sums with a multiple
  pub combined_same : gathered (combine a s m f) ≡ gathered (combine a t m f)
  combined_same = gathered_combine a s m f ∙ ap (λ (g : Form). gathered (combine a g m (gathered f))) e ∙ sym (gathered_combine a t m f)

  -- and these form the same numbers
  pub combine_passes_same : CombinePasses a s m f → CombinePasses a t m f
  combine_passes_same h = record {
    cause = elim h.cause [
      | inl k ↦ inl (k.0, subst (λ (z : ℤ). AddPasses (a *ℤ z) (m *ℤ coefficient k.0 f)) (same_coefficient s t e k.0) k.1)
      | inr k ↦ inr (subst (λ (z : ℤ). AddPasses (a *ℤ z) (m *ℤ f.constant)) (same_constant s t e) k)
    ];
  }

pub sum_from_same : (cs : List Constraint) (ms : List ℤ) (s t : Form) → gathered s ≡ gathered t → gathered (sum_from s cs ms) ≡ gathered (sum_from t cs ms)
unfolding sum_from
sum_from_same [] ms s t e = e
sum_from_same (c ∷ cs) [] s t e = e
sum_from_same (c ∷ cs) (m ∷ ms) s t e = sum_from_same cs ms (combine (pos 1) s m c.form) (combine (pos 1) t m c.form) (combined_same (pos 1) m s t c.form e)

pub sum_passes_same : (cs : List Constraint) (ms : List ℤ) (s t : Form) → gathered s ≡ gathered t → SumPasses s cs ms → SumPasses t cs ms
sum_passes_same [] ms s t e h = h
sum_passes_same (c ∷ cs) [] s t e h = h
sum_passes_same (c ∷ cs) (m ∷ ms) s t e h = elim h [
  | inl k ↦ inl (combine_passes_same (pos 1) m s t c.form e k)
  | inr k ↦ inr (sum_passes_same cs ms (combine (pos 1) s m c.form) (combine (pos 1) t m c.form) (combined_same (pos 1) m s t c.form e) k)
]
