-- The truth of a plain formula grows with the truth of its atoms.
use Rattle.std.proofs.Common.{ℕ, inl, inr, ⊎_elim, ◌↔◌}
use Rattle.std.proofs.Math.IntN.{ℤ}
use Rattle.logic_meaning.specs.Context.{Context}
use Rattle.logic_meaning.specs.Formula.{Formula, Formulas, Yes, No, One, Not, And, Or, Impl, Repl, Equiv, Ex, All, none, also}
use Rattle.logic_meaning.specs.Truth.{True, AllTrue, SomeTrue}
use Rattle.logic_meaning.specs.Every.{Every, EveryOf}
use Rattle.logic_meaning.specs.Replaced.{replaced, all_replaced}
use Rattle.logic_meaning.specs.Plain.{IsPlain, ArePlain}

module _ {A N P Q : Type 0} (says : A → P → Type 0) (move : P → N → ℤ → ℕ → P) (c : Context) (claims : A → Q → Type 0) (shift : Q → N → ℤ → ℕ → Q) (d : Context) (p : P) (q : Q) where
  mutual
    -- where each atom that is true at p is true at q, so is the formula
    pub plain_truth : (f : Formula A N) → IsPlain f → Every (λ a. says a p → claims a q) f → True says move c f p → True claims shift d f q
    plain_truth Yes s e t = t
    plain_truth No s e t = t
    plain_truth (One a) s e t = e t
    plain_truth (Not f) s e t = absurd s
    plain_truth (And fs) s e t = all_plain fs s e t
    plain_truth (Or fs) s e t = some_plain fs s e t
    plain_truth (Impl f g) s e t = absurd s
    plain_truth (Repl f g) s e t = absurd s
    plain_truth (Equiv f g) s e t = absurd s
    plain_truth (Ex x f) s e t = absurd s
    plain_truth (All x f) s e t = absurd s

    all_plain : (fs : Formulas A N) → ArePlain fs → EveryOf (λ a. says a p → claims a q) fs → AllTrue says move c fs p → AllTrue claims shift d fs q
    all_plain none s e t = t
    all_plain (also f fs) s e t = (plain_truth f s.0 e.0 t.0, all_plain fs s.1 e.1 t.1)

    some_plain : (fs : Formulas A N) → ArePlain fs → EveryOf (λ a. says a p → claims a q) fs → SomeTrue says move c fs p → SomeTrue claims shift d fs q
    some_plain none s e t = t
    some_plain (also f fs) s e (inl t) = inl (plain_truth f s.0 e.0 t)
    some_plain (also f fs) s e (inr t) = inr (some_plain fs s.1 e.1 t)

module _ {A B N M P Q : Type 0} (says : A → P → Type 0) (move : P → N → ℤ → ℕ → P) (c : Context) (claims : B → Q → Type 0) (shift : Q → M → ℤ → ℕ → Q) (d : Context) (by : A → Formula B M) (rename : N → M) (p : P) (q : Q) where
  mutual
    -- where each atom is true at p exactly where its replacement is true at q, so is the formula
    pub plain_replaced : (f : Formula A N) → IsPlain f → Every (λ a. says a p ↔ True claims shift d (by a) q) f → True says move c f p ↔ True claims shift d (replaced by rename f) q
    plain_replaced Yes s e = (λ t. t, λ t. t)
    plain_replaced No s e = (λ t. t, λ t. t)
    plain_replaced (One a) s e = e
    plain_replaced (Not f) s e = absurd s
    plain_replaced (And fs) s e = all_plain_replaced fs s e
    plain_replaced (Or fs) s e = some_plain_replaced fs s e
    plain_replaced (Impl f g) s e = absurd s
    plain_replaced (Repl f g) s e = absurd s
    plain_replaced (Equiv f g) s e = absurd s
    plain_replaced (Ex x f) s e = absurd s
    plain_replaced (All x f) s e = absurd s

    all_plain_replaced : (fs : Formulas A N) → ArePlain fs → EveryOf (λ a. says a p ↔ True claims shift d (by a) q) fs → AllTrue says move c fs p ↔ AllTrue claims shift d (all_replaced by rename fs) q
    all_plain_replaced none s e = (λ t. t, λ t. t)
    all_plain_replaced (also f fs) s e =
        let i = plain_replaced f s.0 e.0 in let j = all_plain_replaced fs s.1 e.1 in
        (λ t. (i.0 t.0, j.0 t.1), λ t. (i.1 t.0, j.1 t.1))

    some_plain_replaced : (fs : Formulas A N) → ArePlain fs → EveryOf (λ a. says a p ↔ True claims shift d (by a) q) fs → SomeTrue says move c fs p ↔ SomeTrue claims shift d (all_replaced by rename fs) q
    some_plain_replaced none s e = (λ t. t, λ t. t)
    some_plain_replaced (also f fs) s e =
        let i = plain_replaced f s.0 e.0 in let j = some_plain_replaced fs s.1 e.1 in
        (⊎_elim (λ t. inl (i.0 t)) (λ t. inr (j.0 t)), ⊎_elim (λ t. inl (i.1 t)) (λ t. inr (j.1 t)))
