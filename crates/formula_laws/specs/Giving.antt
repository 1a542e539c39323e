-- What a measured calculation gives.
use Rattle.logic_meaning.specs.Measured.{Outcome, stopped, done}

-- P holds of the result, if there is one
abbrev pub Gives : {A : Type 0} → (A → Type 0) → Outcome A → Type 0
Gives P (stopped s) = Unit {0}
Gives P (done a) = P a
