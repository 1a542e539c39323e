-- A formula whose atoms are replaced by formulas of equal truth has the same truth.
use Rattle.std.proofs.Common.{ℕ, inl, inr, ⊎_elim, ◌↔◌}
use Rattle.std.proofs.Math.IntN.{ℤ}
use Rattle.logic_meaning.specs.Context.{Context, Allowed}
use Rattle.logic_meaning.specs.Formula.{Formula, Formulas, Yes, No, One, Not, And, Or, Impl, Repl, Equiv, Ex, All, none, also}
use Rattle.logic_meaning.specs.Truth.{True, AllTrue, SomeTrue}
use Rattle.logic_meaning.specs.Every.{Every, EveryOf, EveryBound, EveryBoundOf}
use Rattle.logic_meaning.specs.Replaced.{replaced, all_replaced}

-- Linked p q: the points p and q say the same of what both formulas speak of. An allowed move by a quantified name, of
-- which K holds, keeps it.
module _ {A B N M P Q : Type 0} (says : A → P → Type 0) (move : P → N → ℤ → ℕ → P) (claims : B → Q → Type 0) (shift : Q → M → ℤ → ℕ → Q)
    (c : Context) (by : A → Formula B M) (rename : N → M) (K : N → Type 0) (Linked : P → Q → Type 0)
    (moved : (p : P) (q : Q) (x : N) (k : ℤ) (m : ℕ) → Allowed c m → K x → Linked p q → Linked (move p x k m) (shift q (rename x) k m)) where
  mutual
    pub replacing_keeps_truth : (f : Formula A N) → Every (λ a. (p : P) (q : Q) → Linked p q → says a p ↔ True claims shift c (by a) q) f → EveryBound K f →
        (p : P) (q : Q) → Linked p q → True says move c f p ↔ True claims shift c (replaced by rename f) q
    replacing_keeps_truth Yes e b p q h = (λ t. t, λ t. t)
    replacing_keeps_truth No e b p q h = (λ t. t, λ t. t)
    replacing_keeps_truth (One a) e b p q h = e p q h
    replacing_keeps_truth (Not f) e b p q h = let i = replacing_keeps_truth f e b p q h in (λ t u. t (i.1 u), λ t u. t (i.0 u))
    replacing_keeps_truth (And fs) e b p q h = all_replacing fs e b p q h
    replacing_keeps_truth (Or fs) e b p q h = some_replacing fs e b p q h
    replacing_keeps_truth (Impl f g) e b p q h =
        let i = replacing_keeps_truth f e.0 b.0 p q h in let j = replacing_keeps_truth g e.1 b.1 p q h in
        (λ t u. j.0 (t (i.1 u)), λ t u. j.1 (t (i.0 u)))
    replacing_keeps_truth (Repl f g) e b p q h =
        let i = replacing_keeps_truth f e.0 b.0 p q h in let j = replacing_keeps_truth g e.1 b.1 p q h in
        (λ t u. i.0 (t (j.1 u)), λ t u. i.1 (t (j.0 u)))
    replacing_keeps_truth (Equiv f g) e b p q h =
        let i = replacing_keeps_truth f e.0 b.0 p q h in let j = replacing_keeps_truth g e.1 b.1 p q h in
        (λ t. (λ u. j.0 (t.0 (i.1 u)), λ u. i.0 (t.1 (j.1 u))), λ t. (λ u. j.1 (t.0 (i.0 u)), λ u. i.1 (t.1 (j.0 u))))
    replacing_keeps_truth (Ex x f) e b p q h = (
      λ t. (t.0, t.1, t.2, (replacing_keeps_truth f e b.1 (move p x t.0 t.1) (shift q (rename x) t.0 t.1) (moved p q x t.0 t.1 t.2 b.0 h)).0 t.3),
      λ t. (t.0, t.1, t.2, (replacing_keeps_truth f e b.1 (move p x t.0 t.1) (shift q (rename x) t.0 t.1) (moved p q x t.0 t.1 t.2 b.0 h)).1 t.3),
    )
    replacing_keeps_truth (All x f) e b p q h = (
      λ t k m a. (replacing_keeps_truth f e b.1 (move p x k m) (shift q (rename x) k m) (moved p q x k m a b.0 h)).0 (t k m a),
      λ t k m a. (replacing_keeps_truth f e b.1 (move p x k m) (shift q (rename x) k m) (moved p q x k m a b.0 h)).1 (t k m a),
    )

    all_replacing : (fs : Formulas A N) → EveryOf (λ a. (p : P) (q : Q) → Linked p q → says a p ↔ True claims shift c (by a) q) fs → EveryBoundOf K fs →
        (p : P) (q : Q) → Linked p q → AllTrue says move c fs p ↔ AllTrue claims shift c (all_replaced by rename fs) q
    all_replacing none e b p q h = (λ t. t, λ t. t)
    all_replacing (also f fs) e b p q h =
        let i = replacing_keeps_truth f e.0 b.0 p q h in let j = all_replacing fs e.1 b.1 p q h in
        (λ t. (i.0 t.0, j.0 t.1), λ t. (i.1 t.0, j.1 t.1))

    some_replacing : (fs : Formulas A N) → EveryOf (λ a. (p : P) (q : Q) → Linked p q → says a p ↔ True claims shift c (by a) q) fs → EveryBoundOf K fs →
        (p : P) (q : Q) → Linked p q → SomeTrue says move c fs p ↔ SomeTrue claims shift c (all_replaced by rename fs) q
    some_replacing none e b p q h = (λ t. t, λ t. t)
    some_replacing (also f fs) e b p q h =
        let i = replacing_keeps_truth f e.0 b.0 p q h in let j = some_replacing fs e.1 b.1 p q h in
        (⊎_elim (λ t. inl (i.0 t)) (λ t. inr (j.0 t)), ⊎_elim (λ t. inl (i.1 t)) (λ t. inr (j.1 t)))
