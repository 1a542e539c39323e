-- What a formula built by and and or says, where only what its atoms say is known.
use Rattle.std.proofs.Common.{⊎_elim, ℤ, pos, ◌⊎◌, inl, inr, ◌<ℤ◌, ◌≤ℤ◌, arith}
use Rattle.std.proofs.lemmas.Int.{ints}
use Rattle.elimination_theory.proofs.MoreArithmetic.{less_or_at_least, le_of_lt}
use Rattle.formula_laws.proofs.EachAtom.{every_eventually}
use Rattle.logic_meaning.specs.Some.{SomeOf}
use Rattle.logic_meaning.specs.Atoms.{atoms_in, atoms_in_all}
use Rattle.elimination_theory.proofs.SomeListed.{some_left, some_right}
use Rattle.logic_meaning.specs.Every.{Every, EveryOf}
use Rattle.logic_meaning.specs.Formula.{Formula, Formulas, Yes, No, One, Not, And, Or, Impl, Repl, Equiv, Ex, All, none, also}

module _ {A N : Type 0} (P : A → Type 0) where
  abbrev mutual
    -- the formula holds where its atoms hold by P
    pub Eval : Formula A N → Type 0
    Eval Yes = Unit {0}
    Eval No = ⊥
    Eval (One a) = P a
    Eval (And fs) = EvalAll fs
    Eval (Or fs) = EvalSome fs
    Eval (Not f) = ⊥
    Eval (Impl f g) = ⊥
    Eval (Repl f g) = ⊥
    Eval (Equiv f g) = ⊥
    Eval (Ex x f) = ⊥
    Eval (All x f) = ⊥

    pub EvalAll : Formulas A N → Type 0
    EvalAll none = Unit {0}
    EvalAll (also f fs) = Eval f × EvalAll fs

    pub EvalSome : Formulas A N → Type 0
    EvalSome none = ⊥
    EvalSome (also f fs) = Eval f ⊎ EvalSome fs

-- a formula that holds by P holds by Q, or R holds of some atom
module _ {A N : Type 0} (P Q R : A → Type 0) where
  mutual
    pub eval_or : (f : Formula A N) → Every (λ a. P a → Q a ⊎ R a) f → Eval P f → Eval Q f ⊎ SomeOf R (atoms_in f)
    eval_or Yes each here = inl tt
    eval_or No each here = absurd here
    eval_or (One a) each here = ⊎_elim (λ holds. inl holds) (λ near. inr (inl near)) (each here)
    eval_or (And fs) each here = eval_all_or fs each here
    eval_or (Or fs) each here = eval_some_or fs each here
    eval_or (Not f) each here = absurd here
    eval_or (Impl f g) each here = absurd here
    eval_or (Repl f g) each here = absurd here
    eval_or (Equiv f g) each here = absurd here
    eval_or (Ex x f) each here = absurd here
    eval_or (All x f) each here = absurd here

    eval_all_or : (fs : Formulas A N) → EveryOf (λ a. P a → Q a ⊎ R a) fs → EvalAll P fs → EvalAll Q fs ⊎ SomeOf R (atoms_in_all fs)
    eval_all_or none each here = inl tt
    eval_all_or (also f fs) each here = elim (eval_or f each.0 here.0) [
      | inl first ↦ elim (eval_all_or fs each.1 here.1) [ inl rest ↦ inl (first, rest) | inr some ↦ inr (some_right R (atoms_in f) (atoms_in_all fs) some) ]
      | inr some ↦ inr (some_left R (atoms_in f) (atoms_in_all fs) some)
    ]

    eval_some_or : (fs : Formulas A N) → EveryOf (λ a. P a → Q a ⊎ R a) fs → EvalSome P fs → EvalSome Q fs ⊎ SomeOf R (atoms_in_all fs)
    eval_some_or none each here = absurd here
    eval_some_or (also f fs) each here = elim here [
      | inl first ↦ elim (eval_or f each.0 first) [ inl holds ↦ inl (inl holds) | inr some ↦ inr (some_left R (atoms_in f) (atoms_in_all fs) some) ]
      | inr rest ↦ elim (eval_some_or fs each.1 rest) [ inl holds ↦ inl (inr holds) | inr some ↦ inr (some_right R (atoms_in f) (atoms_in_all fs) some) ]
    ]

-- a formula that holds by P holds by Q, where each atom does
module _ {A N : Type 0} (P Q : A → Type 0) where
  mutual
    pub eval_map : (f : Formula A N) → Every (λ a. P a → Q a) f → Eval P f → Eval Q f
    eval_map Yes each here = tt
    eval_map No each here = here
    eval_map (One a) each here = each here
    eval_map (And fs) each here = eval_all_map fs each here
    eval_map (Or fs) each here = eval_some_map fs each here
    eval_map (Not f) each here = absurd here
    eval_map (Impl f g) each here = absurd here
    eval_map (Repl f g) each here = absurd here
    eval_map (Equiv f g) each here = absurd here
    eval_map (Ex x f) each here = absurd here
    eval_map (All x f) each here = absurd here

    eval_all_map : (fs : Formulas A N) → EveryOf (λ a. P a → Q a) fs → EvalAll P fs → EvalAll Q fs
    eval_all_map none each here = tt
    eval_all_map (also f fs) each here = (eval_map f each.0 here.0, eval_all_map fs each.1 here.1)

    eval_some_map : (fs : Formulas A N) → EveryOf (λ a. P a → Q a) fs → EvalSome P fs → EvalSome Q fs
    eval_some_map none each here = here
    eval_some_map (also f fs) each here = elim here [
      | inl first ↦ inl (eval_map f each.0 first)
      | inr rest ↦ inr (eval_some_map fs each.1 rest)
    ]

-- what holds of all numbers below some number
abbrev pub Downwards : (ℤ → Type 0) → Type 0
Downwards Q = (u : ℤ) × ((k : ℤ) → k <ℤ u → Q k)

downwards_whole : Downwards (λ k. Unit {0})
downwards_whole = (pos 0, λ k h. tt)

below_le : (k u v : ℤ) → k <ℤ u → u ≤ℤ v → k <ℤ v
below_le k u v h g = omega (arith, ints)

downwards_both : (Q R : ℤ → Type 0) → Downwards Q → Downwards R → Downwards (λ k. Q k × R k)
downwards_both Q R (v, first) (w, second) = elim (less_or_at_least v w) [
  | inl less ↦ (v, λ k h. (first k h, second k (below_le k v w h (le_of_lt v w less))))
  | inr more ↦ (w, λ k h. (first k (below_le k w v h more), second k h))
]

-- one bound for all atoms
pub every_downwards : {A N : Type 0} (C : ℤ → A → Type 0) (f : Formula A N) → Every (λ a. Downwards (λ k. C k a)) f → Downwards (λ k. Every (C k) f)
every_downwards C f each = every_eventually Downwards downwards_whole downwards_both C f each
