-- A name taken out of those that are left.
use Rattle.std.proofs.Common.{◌≡◌, ℕ, suc, Bool, true, false, List, [], ◌∷◌, length, refl, sym, ap, ◌∙◌, subst, inl, inr, ⊎_elim, eqb-true}
use Rattle.std.proofs.lemmas.Bool.{eqb-false}
use Rattle.std.specs.Prelude.{nat_eq, if◌then◌else◌}
use Rattle.logic_meaning.specs.Some.{Among}
use Rattle.formula_laws.specs.StandsOnce.{StandsOnce}
use Rattle.logic_meaning.specs.declared.form.VarId.{VarId}
use Rattle.case_theory.specs.Pending.{IsRest}
use Rattle.case_theory.proofs.Lists.{once_more, once_head}
use Rattle.branch_rounds.specs.Branches.{numbers, others_of}

module _ (x : VarId) where
  -- one step of it: the name is x, or it stays
  others_step : (P : List VarId → Type 0) (y : VarId) (names : List VarId) → (y.number ≡ x.number → P (others_of x names)) → (¬ (y.number ≡ x.number) → P (y ∷ others_of x names)) → P (others_of x (y ∷ names))
  others_step P y names same other = go (nat_eq y.number x.number) refl
    where
      go : (b : Bool) → nat_eq y.number x.number ≡ b → P (if b then others_of x names else y ∷ others_of x names)
      go true e = same (eqb-true y.number x.number e)
      go false e = other (eqb-false y.number x.number e)

  -- a name that is left is one of them, and not x
  pub left_from : (names : List VarId) (y : ℕ) → Among (numbers (others_of x names)) y → ¬ (x.number ≡ y) × Among (numbers names) y
  left_from [] y m = absurd m
  left_from (z ∷ names) y m =
      others_step (λ l. Among (numbers l) y → ¬ (x.number ≡ y) × Among (numbers (z ∷ names)) y) z names
      (λ e k. let h = left_from names y k in (h.0, inr h.1))
      (λ n k. ⊎_elim (λ e. (λ h. n (e ∙ sym h), inl e)) (λ i. let h = left_from names y i in (h.0, inr h.1)) k) m

  pub left_to : (names : List VarId) (y : ℕ) → ¬ (x.number ≡ y) → Among (numbers names) y → Among (numbers (others_of x names)) y
  left_to [] y n m = m
  left_to (z ∷ names) y n m =
      others_step (λ l. Among (numbers l) y) z names
      (λ e. ⊎_elim (λ h. absurd (n (sym e ∙ h))) (λ h. left_to names y n h) m)
      (λ k. ⊎_elim (λ h. inl h) (λ h. inr (left_to names y n h)) m)

  pub left_once : (names : List VarId) → StandsOnce (numbers names) → StandsOnce (numbers (others_of x names))
  left_once [] o = tt
  left_once (z ∷ names) o =
      others_step (λ l. StandsOnce (numbers l)) z names
      (λ e. left_once names o.1)
      (λ n. once_more z.number (numbers (others_of x names)) (λ m. once_head z.number (numbers names) o (left_from names z.number m).1) (left_once names o.1))

  -- the rest of the names
  pub left_rest : (names : List VarId) → StandsOnce (numbers names) → IsRest x.number (numbers names) (numbers (others_of x names))
  left_rest names o = record { once = left_once names o; same = λ y. (left_from names y, λ t. left_to names y t.0 t.1) }

  -- nothing is lost where x does not stand
  same_count : (names : List VarId) → ¬ (Among (numbers names) x.number) → length (others_of x names) ≡ length names
  same_count [] n = refl
  same_count (z ∷ names) n =
      others_step (λ l. length l ≡ suc (length names)) z names
      (λ e. absurd (n (inl e)))
      (λ k. ap suc (same_count names (λ m. n (inr m))))

  -- and one name where it does
  pub one_fewer : (names : List VarId) → StandsOnce (numbers names) → Among (numbers names) x.number → suc (length (others_of x names)) ≡ length names
  one_fewer [] o m = absurd m
  one_fewer (z ∷ names) o m =
      others_step (λ l. suc (length l) ≡ suc (length names)) z names
      (λ e. ap suc (same_count names (subst (λ (k : ℕ). ¬ (Among (numbers names) k)) e (once_head z.number (numbers names) o))))
      (λ n. ap suc (one_fewer names o.1 (⊎_elim (λ e. absurd (n e)) (λ h. h) m)))

  pub among_numbers : (names : List VarId) → Among names x → Among (numbers names) x.number
  among_numbers [] m = m
  among_numbers (z ∷ names) m = ⊎_elim (λ e. inl (ap (λ (y : VarId). y.number) e)) (λ h. inr (among_numbers names h)) m
