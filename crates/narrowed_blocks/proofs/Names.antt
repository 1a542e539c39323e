-- The names but for one.
use Rattle.std.proofs.Common.{◌≡◌, ℕ, Bool, true, false, List, [], ◌∷◌, ap, sym, ◌∙◌, refl, inl, inr, ⊎_elim, nat_eq, eqb-true, if◌then◌else◌}
use Rattle.std.proofs.lemmas.Bool.{eqb-false}
use Rattle.logic_meaning.specs.Some.{Among, EachOf}
use Rattle.logic_meaning.specs.declared.form.VarId.{VarId}
use Rattle.formula_laws.specs.StandsOnce.{StandsOnce}
use Rattle.case_theory.proofs.Lists.{once_more, once_head}
use Rattle.narrowed_blocks.specs.Narrowing.{numbers, others_of}

-- a name among names has its number among theirs
pub number_among : (names : List VarId) (z : VarId) → Among names z → Among (numbers names) z.number
number_among [] z m = absurd m
number_among (y ∷ names) z (inl e) = inl (ap (λ (v : VarId). v.number) e)
number_among (y ∷ names) z (inr m) = inr (number_among names z m)

module _ (x : VarId) where
  -- one step of it: the name is x, or it stays
  others_step : (P : List VarId → Type 0) (y : VarId) (names : List VarId) → (y.number ≡ x.number → P (others_of x names)) → (¬ (y.number ≡ x.number) → P (y ∷ others_of x names)) → P (others_of x (y ∷ names))
  others_step P y names same other = go (nat_eq y.number x.number) refl
    where
      go : (b : Bool) → nat_eq y.number x.number ≡ b → P (if b then others_of x names else y ∷ others_of x names)
      go true e = same (eqb-true y.number x.number e)
      go false e = other (eqb-false y.number x.number e)

  -- a name that is left is one of them, and not x
  pub number_others : (names : List VarId) (y : ℕ) → Among (numbers (others_of x names)) y → Among (numbers names) y × ¬ (y ≡ x.number)
  number_others [] y m = absurd m
  number_others (z ∷ names) y m =
      others_step (λ l. Among (numbers l) y → Among (numbers (z ∷ names)) y × ¬ (y ≡ x.number)) z names
      (λ e k. let h = number_others names y k in (inr h.0, h.1))
      (λ n k. ⊎_elim (λ e. (inl e, λ h. n (e ∙ h))) (λ i. let h = number_others names y i in (inr h.0, h.1)) k) m

  -- a number of another name stays
  pub others_stay : (names : List VarId) (y : ℕ) → ¬ (y ≡ x.number) → Among (numbers names) y → Among (numbers (others_of x names)) y
  others_stay [] y n m = m
  others_stay (z ∷ names) y n m =
      others_step (λ l. Among (numbers l) y) z names
      (λ e. ⊎_elim (λ h. absurd (n (sym h ∙ e))) (λ h. others_stay names y n h) m)
      (λ k. ⊎_elim (λ h. inl h) (λ h. inr (others_stay names y n h)) m)

  -- another name that is there stays
  pub other_stays : (names : List VarId) (z : VarId) → ¬ (z.number ≡ x.number) → Among names z → Among (others_of x names) z
  other_stays [] z n m = m
  other_stays (y ∷ names) z n m =
      others_step (λ l. Among l z) y names
      (λ e. ⊎_elim (λ h. absurd (n (ap (λ (v : VarId). v.number) (sym h) ∙ e))) (λ h. other_stays names z n h) m)
      (λ k. ⊎_elim (λ h. inl h) (λ h. inr (other_stays names z n h)) m)

  -- each other name stands once
  pub others_once : (names : List VarId) → StandsOnce (numbers names) → StandsOnce (numbers (others_of x names))
  others_once [] o = tt
  others_once (z ∷ names) o =
      others_step (λ l. StandsOnce (numbers l)) z names
      (λ e. others_once names o.1)
      (λ n. once_more z.number (numbers (others_of x names)) (λ m. once_head z.number (numbers names) o (number_others names z.number m).0) (others_once names o.1))

  -- what each name has gives what each other has
  pub others_each : (P Q : VarId → Type 0) → ((z : VarId) → ¬ (z.number ≡ x.number) → P z → Q z) → (names : List VarId) → EachOf P names → EachOf Q (others_of x names)
  others_each P Q gives [] e = tt
  others_each P Q gives (z ∷ names) e =
      others_step (EachOf Q) z names
      (λ i. others_each P Q gives names e.1)
      (λ n. (gives z n e.0, others_each P Q gives names e.1))
