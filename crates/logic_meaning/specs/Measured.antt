-- Computations that add up a cost, and stop at their first event.
use Rattle.std.specs.Prelude.{ℕ, ◌+◌, nat_le, Bool, if◌then◌else◌}

-- what stops a computation: a number that passes the limit of exact_numbers, or a cost above its limit
pub data Stop : Type 0 where
  Overflow Nodes : Stop

-- a result, or what stopped the computation before it
pub data Outcome (A : Type 0) : Type 0 where
  stopped : Stop → Outcome A
  done : A → Outcome A

-- the second, of the result of the first; stopped where the first is stopped
abbrev pub then_of : {A B : Type 0} → Outcome A → (A → Outcome B) → Outcome B
then_of (stopped s) k = stopped s
then_of (done a) k = k a

-- from the cost so far, a result and the cost after it
abbrev pub Counted : Type 0 → Type 0
Counted A = ℕ → Outcome (A × ℕ)

infixl 10 ◌>>=◌
-- the second, of the result of the first and from the cost after it; stopped where the first is stopped
abbrev pub ◌>>=◌ : {A B : Type 0} → Counted A → (A → Counted B) → Counted B
m >>= k = λ cost. then_of (m cost) (λ r. k r.0 r.1)

-- the result, at no cost
abbrev pub give : {A : Type 0} → A → Counted A
give a = λ cost. done (a, cost)

-- a cost of n, which may not pass the limit
abbrev pub pay : ℕ → ℕ → Counted (Unit {0})
pay limit n = λ cost. if nat_le (cost + n) limit then done (tt, cost + n) else stopped Nodes

-- goes on where the test says that no number passes the limit of exact_numbers
abbrev pub within : Bool → Counted (Unit {0})
within test = λ cost. if test then done (tt, cost) else stopped Overflow
