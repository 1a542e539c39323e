-- What is proved of the search.
use Rattle.std.specs.Prelude.{◌≡◌, ◌↔◌, ℕ, ◌<◌, ℤ, pos, List, nat_eq}
use Rattle.logic_meaning.specs.Context.{Fields}
use Rattle.formula_laws.specs.StandsOnce.{StandsOnce}
use Rattle.logic_meaning.specs.Form.{coefficient}
use Rattle.formula_laws.specs.Giving.{Gives}
use Rattle.logic_meaning.specs.Point.{Point, Of, move}
use Rattle.logic_meaning.specs.Some.{Among, EachOf}
use Rattle.logic_meaning.specs.Values.{Value, value_names, with_values, IsValue, origin}
use Rattle.logic_meaning.specs.Constraints.{Constraint}
use Rattle.linear_theory.specs.Meeting.{MeetsAll}
use Rattle.logic_meaning.specs.Farkas.{IsFarkas}
use Rattle.logic_meaning.specs.Rows.{Row}
use Rattle.linear_theory.specs.RowsHold.{RowsHold, rows_after}
use Rattle.logic_meaning.specs.Search.{Certificate, At, Farkas, search}

-- The rows after the step for x hold at a point exactly where x can be put to a value at which the rows before it hold.
abbrev pub StepIsExact : Type 0
StepIsExact = (x : ℕ) (rows : List Row) (p : Point ℕ) → Of Fields p → RowsHold p (rows_after x rows) ↔ ((k : ℤ) × (m : ℕ) × 0 < m × RowsHold (move nat_eq p x k m) rows)

-- each name of a constraint is one of these
abbrev pub AreOver : List ℕ → List Constraint → Type 0
AreOver names cs = EachOf (λ (c : Constraint). (y : ℕ) → ¬ (coefficient y c.form ≡ pos 0) → Among names y) cs

-- The values are those of the names, in their order and in lowest terms, and with them all constraints are met.
pub record IsSolution (names : List ℕ) (cs : List Constraint) (vs : List Value) : Type 0 where
  pub named : value_names vs ≡ names
  pub each : EachOf (IsValue Fields) vs
  pub meets : MeetsAll (with_values origin vs) cs

abbrev pub IsCertificate : List ℕ → List Constraint → Certificate → Type 0
IsCertificate names cs (At vs) = IsSolution names cs vs
IsCertificate names cs (Farkas ms) = IsFarkas cs ms

-- Where the names differ and are all those of the constraints, what the search gives is a certificate.
abbrev pub SearchIsSound : Type 0
SearchIsSound = (limit : ℕ) (names : List ℕ) (cs : List Constraint) → StandsOnce names → AreOver names cs → Gives (IsCertificate names cs) (search limit names cs)
