-- What `check-sat` may print, and the values that it leaves.
use Rattle.std.specs.Prelude.{ℕ, suc, pos, ◌<ℤ◌, List, [], ◌∷◌, codes, ◌⊎◌}
use Rattle.std.specs.List.{AllByRecursion}
use Rattle.exact_numbers.specs.Frac.{Frac, IsLowest, SameValue}
use Rattle.exact_numbers.specs.Limit.{InLimit}
use Rattle.logic_meaning.specs.Context.{Context}
use Rattle.logic_meaning.specs.Point.{Of}
use Rattle.language_meaning.specs.Trees.{Named}
use Rattle.language_meaning.specs.Value.{NamedPoint, value}
use Rattle.smt_language.specs.Levels.{level}
use Rattle.program_meaning.specs.SmtState.{State, Kept, Nothing, TooLarge, Values}
use Rattle.program_meaning.specs.Sentence.{Says, Holds, Fails, ReferenceStops, SampleStops}

-- the names of the levels from one on have these values at the point, one for each declared name
abbrev pub HaveValues : ℕ → List (List ℕ) → List Frac → NamedPoint → Type 0
HaveValues n [] [] p = Unit {0}
HaveValues n (x ∷ xs) (v ∷ vs) p = SameValue (value (Named (level n)) p) v × HaveValues (suc n) xs vs p
HaveValues n [] (v ∷ vs) p = ⊥
HaveValues n (x ∷ xs) [] p = ⊥

-- the value is in lowest terms over a positive denominator, and both numbers are within the limit
pub record IsValue (v : Frac) : Type 0 where
  pub lowest : IsLowest v
  pub positive : pos 0 <ℤ v.denominator
  pub above : InLimit v.numerator
  pub below : InLimit v.denominator

-- they are values of one point of the theory, at which each formula that is asserted is true as it is written
pub record AreValues (c : Context) (s : State) (vs : List Frac) : Type 0 where
  pub point : NamedPoint
  pub of : Of c point
  pub values : HaveValues 0 s.declared vs point
  pub each : AllByRecursion IsValue vs
  pub true : AllByRecursion (λ f. Says c f point) s.asserted

-- The line, and what is kept. Where the sentence is true and the values pass the limit, the reference elimination or the reference sample
-- of the sentence does; and it is left open only where the reference elimination stops.
pub data Checks (c : Context) (s : State) (limit : ℕ) : List ℕ → Kept → Type 0 where
  sat : {vs : List Frac} → Holds c s → AreValues c s vs → Checks c s limit (codes "sat") (Values vs)
  sat_alone : Holds c s → ReferenceStops c s limit ⊎ SampleStops c s limit → Checks c s limit (codes "sat") TooLarge
  unsat : Fails c s → Checks c s limit (codes "unsat") Nothing
  unknown : ReferenceStops c s limit → Checks c s limit (codes "unknown") Nothing
