-- Names in the order of their numbers stand once.
use Rattle.std.proofs.Common.{arith, ◌≡◌, ℕ, ◌+◌, ◌<◌, List, [], ◌∷◌, ◌++◌, inl, inr}
use Rattle.logic_meaning.specs.Some.{SomeOf, EachOf}
use Rattle.formula_laws.specs.StandsOnce.{StandsOnce}
use Rattle.logic_meaning.specs.declared.form.VarId.{VarId}
use Rattle.branch_rounds.specs.Branches.{numbers}

-- names below a number, each once
pub record AreBelow (n : ℕ) (names : List VarId) : Type 0 where
  pub below : EachOf (λ (m : ℕ). m < n) (numbers names)
  pub once : StandsOnce (numbers names)

-- a number that is none of them is none with one more that is another
not_next : (m : ℕ) (x : VarId) → m < x.number → (names : List VarId) → ¬ (SomeOf (λ (k : ℕ). m ≡ k) (numbers names)) → ¬ (SomeOf (λ (k : ℕ). m ≡ k) (numbers (names ++ x ∷ [])))
not_next m x l [] none (inl e) = absurd (omega (arith, l, e))
not_next m x l [] none (inr h) = h
not_next m x l (y ∷ names) none (inl e) = none (inl e)
not_next m x l (y ∷ names) none (inr h) = not_next m x l names (λ s. none (inr s)) h

below_next : (x : VarId) (names : List VarId) → EachOf (λ (m : ℕ). m < x.number) (numbers names) → EachOf (λ (m : ℕ). m < x.number + 1) (numbers (names ++ x ∷ []))
below_next x [] h = (omega (arith), tt)
below_next x (y ∷ names) h = (omega (arith, h.0), below_next x names h.1)

once_next : (x : VarId) (names : List VarId) → EachOf (λ (m : ℕ). m < x.number) (numbers names) → StandsOnce (numbers names) → StandsOnce (numbers (names ++ x ∷ []))
once_next x [] h o = ((λ s. not_next_none s), tt)
  where
    not_next_none : ¬ (SomeOf (λ (k : ℕ). x.number ≡ k) [])
    not_next_none s = s
once_next x (y ∷ names) h o = (not_next y.number x h.0 names o.0, once_next x names h.1 o.1)

-- the next name put last
pub are_below_next : (x : VarId) (names : List VarId) → AreBelow x.number names → AreBelow (x.number + 1) (names ++ x ∷ [])
are_below_next x names b = record { below = below_next x names b.below; once = once_next x names b.below b.once }
