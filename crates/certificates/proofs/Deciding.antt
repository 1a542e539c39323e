-- What the sorted sum of the multiples decides: it has no terms exactly where it has no names, and its constant is that of the sum.
use Rattle.std.proofs.Common.{◌≡◌, ◌⊎◌, ℕ, Bool, IsTrue, ◌↔◌, length, List, [], ◌∷◌, ap, sym, ◌∙◌, subst, refl, arith}
use Rattle.std.proofs.Math.IntN.{ℤ, pos}
use Rattle.std.specs.Prelude.{◌<ℤ◌}
use Rattle.logic_meaning.specs.Form.{Form, Term, coefficient}
use Rattle.logic_meaning.specs.Sorted.{gathered}
use Rattle.formula_laws.proofs.Gathered.{coefficient_gathered, constant_gathered, gathered_is}
use Rattle.logic_meaning.specs.Constraints.{Constraint}
use Rattle.logic_meaning.specs.Farkas.{nothing, AreAllowed, sum_from, SomeStrict, IsFarkas}

none_of : (ts : List Term) → length ts ≡ 0 → ts ≡ []
none_of [] e = refl
none_of (t ∷ ts) e = absurd (omega arith)

no_coefficient : (f : Form) → f.terms ≡ [] → (x : ℕ) → coefficient x f ≡ pos 0
unfolding coefficient
no_coefficient f e x = subst (λ (ts : List Term). coefficient x (record { terms = ts; constant = f.constant }) ≡ pos 0) (sym e) refl

-- a form whose sorted form has no terms has no coefficients,
no_names : (f : Form) → length (gathered f).terms ≡ 0 → (x : ℕ) → coefficient x f ≡ pos 0
no_names f e x = sym (coefficient_gathered x f) ∙ no_coefficient (gathered f) (none_of (gathered f).terms e) x

-- and the sorted form of one without coefficients has no terms
no_terms : (f : Form) → ((x : ℕ) → coefficient x f ≡ pos 0) → length (gathered f).terms ≡ 0
unfolding coefficient
no_terms f h =
    let e = gathered_is f (record { terms = []; constant = f.constant }) (record { rising = tt; nonzero = tt }) (λ x. sym (h x)) refl in
    ap (λ (g : Form). length g.terms) e

module _ (cs : List Constraint) (ms : List ℤ) (s : Form) (e : s ≡ gathered (sum_from nothing cs ms)) where
  same_terms : length s.terms ≡ length (gathered (sum_from nothing cs ms)).terms
  same_terms = ap (λ (g : Form). length g.terms) e

  -- a sum with a term proves nothing
  pub not_farkas : ¬ (length s.terms ≡ 0) → ¬ (IsFarkas cs ms)
  not_farkas n h = n (same_terms ∙ no_terms (sum_from nothing cs ms) h.no_names)

  -- and one without terms what its constant says
  pub farkas_if : AreAllowed cs ms → length s.terms ≡ 0 → (k : ℤ) → k ≡ s.constant → (r : Bool) → IsTrue r ↔ ((pos 0 <ℤ k) ⊎ ((k ≡ pos 0) × SomeStrict cs ms)) → IsTrue r ↔ IsFarkas cs ms
  farkas_if a n k q r h =
      let d : k ≡ (sum_from nothing cs ms).constant = q ∙ ap (λ (g : Form). g.constant) e ∙ constant_gathered (sum_from nothing cs ms) in
      let P : ℤ → Type 0 = λ z. (pos 0 <ℤ z) ⊎ ((z ≡ pos 0) × SomeStrict cs ms) in (
        λ t. record { allowed = a; no_names = no_names (sum_from nothing cs ms) (sym same_terms ∙ n); constant = subst P d (h.0 t) },
        λ f. h.1 (subst P (sym d) f.constant),
      )
