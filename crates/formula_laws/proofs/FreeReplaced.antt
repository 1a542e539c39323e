-- The free names of a plain formula whose atoms are replaced.
use Rattle.std.proofs.Common.{inl, inr, ⊎_elim}
use Rattle.logic_meaning.specs.Formula.{Formula, Formulas, Yes, No, One, Not, And, Or, Impl, Repl, Equiv, Ex, All, none, also}
use Rattle.logic_meaning.specs.Every.{Every, EveryOf, Free, FreeInSome}
use Rattle.logic_meaning.specs.Plain.{IsPlain, ArePlain}
use Rattle.logic_meaning.specs.Replaced.{replaced, all_replaced}

module _ {A N : Type 0} (mentions : A → N → Type 0) (x : N) (P : Type 0) where
  mutual
    -- what follows from a name's being free follows from an atom's having it
    pub every_free : (f : Formula A N) → IsPlain f → (Free mentions f x → P) → Every (λ a. mentions a x → P) f
    every_free Yes s h = tt
    every_free No s h = tt
    every_free (One a) s h = h
    every_free (Not f) s h = absurd s
    every_free (And fs) s h = every_free_of fs s h
    every_free (Or fs) s h = every_free_of fs s h
    every_free (Impl f g) s h = absurd s
    every_free (Repl f g) s h = absurd s
    every_free (Equiv f g) s h = absurd s
    every_free (Ex y f) s h = absurd s
    every_free (All y f) s h = absurd s

    every_free_of : (fs : Formulas A N) → ArePlain fs → (FreeInSome mentions fs x → P) → EveryOf (λ a. mentions a x → P) fs
    every_free_of none s h = tt
    every_free_of (also f fs) s h = (every_free f s.0 (λ t. h (inl t)), every_free_of fs s.1 (λ t. h (inr t)))

module _ {A B N M : Type 0} (mentions : B → M → Type 0) (by : A → Formula B M) (rename : N → M) (x : M) (P : Type 0) where
  mutual
    -- a name that is free after the replacement is free in some replacement
    pub free_replaced : (f : Formula A N) → IsPlain f → Every (λ a. Free mentions (by a) x → P) f → Free mentions (replaced by rename f) x → P
    free_replaced Yes s h t = absurd t
    free_replaced No s h t = absurd t
    free_replaced (One a) s h t = h t
    free_replaced (Not f) s h t = absurd s
    free_replaced (And fs) s h t = free_in_replaced fs s h t
    free_replaced (Or fs) s h t = free_in_replaced fs s h t
    free_replaced (Impl f g) s h t = absurd s
    free_replaced (Repl f g) s h t = absurd s
    free_replaced (Equiv f g) s h t = absurd s
    free_replaced (Ex y f) s h t = absurd s
    free_replaced (All y f) s h t = absurd s

    free_in_replaced : (fs : Formulas A N) → ArePlain fs → EveryOf (λ a. Free mentions (by a) x → P) fs → FreeInSome mentions (all_replaced by rename fs) x → P
    free_in_replaced none s h t = absurd t
    free_in_replaced (also f fs) s h t = ⊎_elim (free_replaced f s.0 h.0) (free_in_replaced fs s.1 h.1) t

module _ {A B N M : Type 0} (mentions : B → M → Type 0) (by with_other : A → Formula B M) (rename : N → M) (x : M) where
  mutual
    -- where each second replacement has no other names than the first, neither has the formula
    pub fewer_replaced : (f : Formula A N) → Every (λ a. Free mentions (with_other a) x → Free mentions (by a) x) f → Free mentions (replaced with_other rename f) x → Free mentions (replaced by rename f) x
    fewer_replaced Yes h t = t
    fewer_replaced No h t = t
    fewer_replaced (One a) h t = h t
    fewer_replaced (Not f) h t = fewer_replaced f h t
    fewer_replaced (And fs) h t = fewer_in_replaced fs h t
    fewer_replaced (Or fs) h t = fewer_in_replaced fs h t
    fewer_replaced (Impl f g) h t = ⊎_elim (λ u. inl (fewer_replaced f h.0 u)) (λ u. inr (fewer_replaced g h.1 u)) t
    fewer_replaced (Repl f g) h t = ⊎_elim (λ u. inl (fewer_replaced f h.0 u)) (λ u. inr (fewer_replaced g h.1 u)) t
    fewer_replaced (Equiv f g) h t = ⊎_elim (λ u. inl (fewer_replaced f h.0 u)) (λ u. inr (fewer_replaced g h.1 u)) t
    fewer_replaced (Ex y f) h t = (t.0, fewer_replaced f h t.1)
    fewer_replaced (All y f) h t = (t.0, fewer_replaced f h t.1)

    fewer_in_replaced : (fs : Formulas A N) → EveryOf (λ a. Free mentions (with_other a) x → Free mentions (by a) x) fs → FreeInSome mentions (all_replaced with_other rename fs) x → FreeInSome mentions (all_replaced by rename fs) x
    fewer_in_replaced none h t = t
    fewer_in_replaced (also f fs) h t = ⊎_elim (λ u. inl (fewer_replaced f h.0 u)) (λ u. inr (fewer_in_replaced fs h.1 u)) t
