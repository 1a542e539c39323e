-- The truth of a plain formula, and of what replaces it, from what its atoms say.
use Rattle.std.proofs.Common.{ℕ, ℤ, ◌↔◌, inl, inr, ⊎_elim}
use Rattle.logic_meaning.specs.Context.{Context}
use Rattle.logic_meaning.specs.Formula.{Formula, Formulas, Yes, No, One, Not, And, Or, Impl, Repl, Equiv, Ex, All, none, also}
use Rattle.logic_meaning.specs.Truth.{True, AllTrue, SomeTrue}
use Rattle.logic_meaning.specs.Plain.{IsPlain, ArePlain}
use Rattle.logic_meaning.specs.Replaced.{replaced, all_replaced}
use Rattle.elimination_theory.proofs.IntegerEval.{Eval, EvalAll, EvalSome}

module _ {A N P : Type 0} (says : A → P → Type 0) (move : P → N → ℤ → ℕ → P) (c : Context) (p : P) where
  mutual
    pub plain_eval : (f : Formula A N) → IsPlain f → True says move c f p ↔ Eval (λ a. says a p) f
    plain_eval Yes plain = (λ t. t, λ t. t)
    plain_eval No plain = (λ t. t, λ t. t)
    plain_eval (One a) plain = (λ t. t, λ t. t)
    plain_eval (And fs) plain = all_eval fs plain
    plain_eval (Or fs) plain = some_eval fs plain
    plain_eval (Not f) plain = absurd plain
    plain_eval (Impl f g) plain = absurd plain
    plain_eval (Repl f g) plain = absurd plain
    plain_eval (Equiv f g) plain = absurd plain
    plain_eval (Ex x f) plain = absurd plain
    plain_eval (All x f) plain = absurd plain

    all_eval : (fs : Formulas A N) → ArePlain fs → AllTrue says move c fs p ↔ EvalAll (λ a. says a p) fs
    all_eval none plain = (λ t. t, λ t. t)
    all_eval (also f fs) plain =
        let first = plain_eval f plain.0 in let rest = all_eval fs plain.1 in
        (λ t. (first.0 t.0, rest.0 t.1), λ t. (first.1 t.0, rest.1 t.1))

    some_eval : (fs : Formulas A N) → ArePlain fs → SomeTrue says move c fs p ↔ EvalSome (λ a. says a p) fs
    some_eval none plain = (λ t. t, λ t. t)
    some_eval (also f fs) plain =
        let first = plain_eval f plain.0 in let rest = some_eval fs plain.1 in
        (⊎_elim (λ t. inl (first.0 t)) (λ t. inr (rest.0 t)), ⊎_elim (λ t. inl (first.1 t)) (λ t. inr (rest.1 t)))

module _ {A B N P : Type 0} (by : A → Formula B N) (says : B → P → Type 0) (move : P → N → ℤ → ℕ → P) (c : Context) (p : P) where
  mutual
    pub replaced_eval : (f : Formula A N) → IsPlain f → True says move c (replaced by (λ x. x) f) p ↔ Eval (λ a. True says move c (by a) p) f
    replaced_eval Yes plain = (λ t. t, λ t. t)
    replaced_eval No plain = (λ t. t, λ t. t)
    replaced_eval (One a) plain = (λ t. t, λ t. t)
    replaced_eval (And fs) plain = all_replaced_eval fs plain
    replaced_eval (Or fs) plain = some_replaced_eval fs plain
    replaced_eval (Not f) plain = absurd plain
    replaced_eval (Impl f g) plain = absurd plain
    replaced_eval (Repl f g) plain = absurd plain
    replaced_eval (Equiv f g) plain = absurd plain
    replaced_eval (Ex x f) plain = absurd plain
    replaced_eval (All x f) plain = absurd plain

    all_replaced_eval : (fs : Formulas A N) → ArePlain fs → AllTrue says move c (all_replaced by (λ x. x) fs) p ↔ EvalAll (λ a. True says move c (by a) p) fs
    all_replaced_eval none plain = (λ t. t, λ t. t)
    all_replaced_eval (also f fs) plain =
        let first = replaced_eval f plain.0 in let rest = all_replaced_eval fs plain.1 in
        (λ t. (first.0 t.0, rest.0 t.1), λ t. (first.1 t.0, rest.1 t.1))

    some_replaced_eval : (fs : Formulas A N) → ArePlain fs → SomeTrue says move c (all_replaced by (λ x. x) fs) p ↔ EvalSome (λ a. True says move c (by a) p) fs
    some_replaced_eval none plain = (λ t. t, λ t. t)
    some_replaced_eval (also f fs) plain =
        let first = replaced_eval f plain.0 in let rest = some_replaced_eval fs plain.1 in
        (⊎_elim (λ t. inl (first.0 t)) (λ t. inr (rest.0 t)), ⊎_elim (λ t. inl (first.1 t)) (λ t. inr (rest.1 t)))
