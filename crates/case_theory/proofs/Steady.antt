-- What the reference elimination does at some cost so far it does at a lesser one, with the same result.
use Rattle.std.proofs.Common.{◌≡◌, ℕ, ◌+◌, ◌≤◌, nat_le, Bool, true, false, List, refl, ap, sym, subst, arith, if◌then◌else◌}
use Rattle.std.proofs.lemmas.Bool.{leb-true, le-leb}
use Rattle.logic_meaning.specs.Context.{Context}
use Rattle.logic_meaning.specs.Tree.{Tree}
use Rattle.logic_meaning.specs.Measured.{Outcome, stopped, done, then_of, Counted, ◌>>=◌, give, pay, within, Nodes}
use Rattle.elimination_theory.proofs.Through.{through_branches}
use Rattle.logic_meaning.specs.Reference.{branches}

-- where the first has a result, the second has it too, at no greater cost
abbrev pub IsNoDearer : {A : Type 0} → Outcome (A × ℕ) → Outcome (A × ℕ) → Type 0
IsNoDearer (stopped s) o = Unit {0}
IsNoDearer (done r) o = (k : ℕ) × (o ≡ done (r.0, k)) × k ≤ r.1

abbrev pub Steady : {A : Type 0} → Counted A → Type 0
Steady m = (cost less : ℕ) → less ≤ cost → IsNoDearer (m cost) (m less)

steady_then : {A B : Type 0} (m : Counted A) (k : A → Counted B) → Steady m → ((a : A) → Steady (k a)) → Steady (m >>= k)
steady_then {A} {B} m k h g cost less l = go (m cost) (h cost less l)
  where
    go : (o : Outcome (A × ℕ)) → IsNoDearer o (m less) → IsNoDearer (then_of o (λ r. k r.0 r.1)) (then_of (m less) (λ r. k r.0 r.1))
    go (stopped s) i = tt
    go (done r) i = subst (λ (o : Outcome (A × ℕ)). IsNoDearer (k r.0 r.1) (then_of o (λ q. k q.0 q.1))) (sym i.1) (g r.0 r.1 i.0 i.2)

steady_give : {A : Type 0} (a : A) → Steady (give a)
steady_give a cost less l = (less, refl, l)

steady_within : (test : Bool) → Steady (within test)
steady_within true cost less l = (less, refl, l)
steady_within false cost less l = tt

steady_pay : (limit n : ℕ) → Steady (pay limit n)
steady_pay limit n cost less l = go (nat_le (cost + n) limit) refl
  where
    go : (b : Bool) → nat_le (cost + n) limit ≡ b → IsNoDearer (if b then done (tt, cost + n) else stopped Nodes) (pay limit n less)
    go true e =
        let h = leb-true (cost + n) limit e in
        (less + n, ap (λ (b : Bool). let o : Outcome (Unit {0} × ℕ) = if b then done (tt, less + n) else stopped Nodes in o) (le-leb (less + n) limit (omega arith)), omega arith)
    go false e = tt

pub steady_branches : (c : Context) (limit : ℕ) (names : List ℕ) (sign : Bool) (f : Tree) → Steady (branches c limit names sign f)
steady_branches c limit names sign f = through_branches c limit (λ A m. Steady m) (λ A B m k. steady_then m k) (λ A a. steady_give a) steady_within (steady_pay limit) names sign f
