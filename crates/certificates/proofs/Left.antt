-- What is left of the program's constraints and multipliers after one more.
use Rattle.std.proofs.Common.{◌≡◌, ◌⊎◌, inl, inr, map, List, [], ◌∷◌, ap, subst, ⊎_elim}
use Rattle.std.proofs.Math.IntN.{ℤ}
use Rattle.logic_meaning.specs.Constraints as meaning
use Rattle.certificates.specs.Constraints.{constraint_of}
use Rattle.certificates.specs.declared.constraint.Constraint.{Constraint}

module _ (P : List meaning.Constraint → List ℤ → Type 0) (cs : List Constraint) (ms : List ℤ) where
  -- a fact of the two lists is one of the first of each and of the rest
  pub taken : (c : Constraint) (m : ℤ) (rest : List Constraint) (left : List ℤ) → cs ≡ c ∷ rest → ms ≡ m ∷ left → P (map constraint_of cs) ms → P (constraint_of c ∷ map constraint_of rest) (m ∷ left)
  taken c m rest left e d h = subst (λ (l : List ℤ). P (constraint_of c ∷ map constraint_of rest) l) d (subst (λ (l : List Constraint). P (map constraint_of l) ms) e h)

-- one of the lists is at its end
pub none_left : (cs : List Constraint) (ms : List ℤ) → (cs ≡ []) ⊎ (ms ≡ []) → (map constraint_of cs ≡ []) ⊎ (ms ≡ [])
none_left cs ms e = ⊎_elim (λ q. inl (ap (map constraint_of) q)) (λ q. inr q) e
