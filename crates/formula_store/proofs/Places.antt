-- The places of two lists, one after the other.
use Rattle.std.proofs.Common.{◌≡◌, ℕ, zero, suc, ◌+◌, List, [], ◌∷◌, ◌++◌, Some, slice_get, length, ◌⊎◌, inl, inr, ⊎_elim, ap, ◌∙◌, arith}

module _ {X : Type 0} where
  -- what stands in the first
  pub place_left : (xs ys : List X) (i : ℕ) (x : X) → slice_get xs i ≡ Some x → slice_get (xs ++ ys) i ≡ Some x
  place_left [] ys i x e = cc
  place_left (a ∷ xs) ys zero x e = e
  place_left (a ∷ xs) ys (suc i) x e = place_left xs ys i x e

  -- what stands in the second
  pub place_right : (xs ys : List X) (i j : ℕ) (x : X) → j ≡ length xs + i → slice_get ys i ≡ Some x → slice_get (xs ++ ys) j ≡ Some x
  place_right [] ys i j x h e = let k : j ≡ i = omega arith in ap (slice_get ys) k ∙ e
  place_right (a ∷ xs) ys i zero x h e = absurd (omega arith)
  place_right (a ∷ xs) ys i (suc j) x h e = place_right xs ys i j x (omega arith) e

  -- one or the other
  pub place_either : (xs ys : List X) (j : ℕ) (x : X) → slice_get (xs ++ ys) j ≡ Some x → (slice_get xs j ≡ Some x) ⊎ ((i : ℕ) × (j ≡ length xs + i) × (slice_get ys i ≡ Some x))
  place_either [] ys j x e = inr (j, omega arith, e)
  place_either (a ∷ xs) ys zero x e = inl e
  place_either (a ∷ xs) ys (suc j) x e = ⊎_elim (λ h. inl h) (λ h. inr (h.0, (let k = h.1 in omega arith), h.2)) (place_either xs ys j x e)
