-- What holds of a counted computation whatever it has cost so far.
use Rattle.std.proofs.Common.{◌≡◌, refl, ℕ, ◌+◌, nat_le, Bool, true, false, if◌then◌else◌}
use Rattle.logic_meaning.specs.Measured.{Outcome, stopped, done, then_of, Counted, ◌>>=◌, give, pay, within, Nodes}
use Rattle.formula_laws.specs.Giving.{Gives}

pub gives_then : {A B : Type 0} (P : A → Type 0) (Q : B → Type 0) (o : Outcome A) (k : A → Outcome B) → Gives P o → ((a : A) → P a → Gives Q (k a)) → Gives Q (then_of o k)
gives_then P Q (stopped s) k h g = tt
gives_then P Q (done a) k h g = g a h

-- P holds of the result, at each cost so far
abbrev pub Always : {A : Type 0} → (A → Type 0) → Counted A → Type 0
Always {A} P m = (cost : ℕ) → Gives (λ (r : A × ℕ). P r.0) (m cost)

pub always_then : {A B : Type 0} (P : A → Type 0) (Q : B → Type 0) (m : Counted A) (k : A → Counted B) → Always P m → ((a : A) → P a → Always Q (k a)) → Always Q (m >>= k)
always_then {A} {B} P Q m k h g cost = gives_then (λ (r : A × ℕ). P r.0) (λ (r : B × ℕ). Q r.0) (m cost) (λ r. k r.0 r.1) (h cost) (λ r p. g r.0 p r.1)

pub always_give : {A : Type 0} (P : A → Type 0) (a : A) → P a → Always P (give a)
always_give P a p cost = p

pub always_pay : (limit n : ℕ) → Always (λ u. Unit {0}) (pay limit n)
always_pay limit n cost = go (nat_le (cost + n) limit)
  where
    go : (b : Bool) → Gives (λ (r : Unit {0} × ℕ). Unit {0}) (if b then done (tt, cost + n) else stopped Nodes)
    go true = tt
    go false = tt

pub always_within : (test : Bool) → Always (λ u. Unit {0}) (within test)
always_within true cost = tt
always_within false cost = tt

-- what goes on has passed the test
pub always_passed : (test : Bool) → Always (λ u. test ≡ true) (within test)
always_passed true cost = refl
always_passed false cost = tt

pub always_map : {A : Type 0} (P Q : A → Type 0) (m : Counted A) → ((a : A) → P a → Q a) → Always P m → Always Q m
always_map {A} P Q m g h cost = go (m cost) (h cost)
  where
    go : (o : Outcome (A × ℕ)) → Gives (λ (r : A × ℕ). P r.0) o → Gives (λ (r : A × ℕ). Q r.0) o
    go (stopped s) p = tt
    go (done r) p = g r.0 p

pub gives_both : {A : Type 0} (P Q : A → Type 0) (o : Outcome A) → Gives P o → Gives Q o → Gives (λ a. P a × Q a) o
gives_both P Q (stopped s) p q = tt
gives_both P Q (done a) p q = (p, q)

pub gives_map : {A : Type 0} (P Q : A → Type 0) (o : Outcome A) → ((a : A) → P a → Q a) → Gives P o → Gives Q o
gives_map P Q (stopped s) g p = tt
gives_map P Q (done a) g p = g a p
