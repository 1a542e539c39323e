-- What the pieces of a run have for answers, or where they stop.
use Rattle.std.specs.Prelude.{◌≡◌, ℕ, ◌+◌, ◌<◌, ◌≤◌, List, Some, Result, Ok, Err, length, slice_get}
use Rattle.std.specs.declared.alloc.Global.{Global}
use Rattle.std.specs.declared.vec.Vec.{Vec}
use Rattle.qe_parallel.specs.declared.error.FanError.{FanError}
use Rattle.qe_parallel.specs.declared.error.FanError.TheVariants.{Piece, Memory}

-- each is an answer to its piece, the first to the piece with this number
abbrev pub AreAnswers : {Out : Type 0} → (ℕ → Out → Type 0) → ℕ → List Out → Type 0
AreAnswers {Out} R from outs = (i : ℕ) (out : Out) → slice_get outs i ≡ Some out → R (from + i) out

-- the pieces from one up to another have answers
abbrev pub HaveAnswers : {Out : Type 0} → (ℕ → Out → Type 0) → ℕ → ℕ → Type 0
HaveAnswers {Out} R from to = (i : ℕ) → from ≤ i → i < to → (out : Out) × R i out

-- The worker may stop at this piece with this stop, which is one of the run, and each piece of the run before it has an answer.
pub record StopsAt {Out Stop : Type 0} (R : ℕ → Out → Type 0) (S : ℕ → Stop → Type 0) (from to p : ℕ) (stop : Stop) : Type 0 where
  pub first : from ≤ p
  pub last : p < to
  pub stops : S p stop
  pub before : HaveAnswers R from p

-- why not all pieces of a run have an answer
abbrev pub Fails : {Out Stop : Type 0} → (ℕ → Out → Type 0) → (ℕ → Stop → Type 0) → ℕ → ℕ → FanError Stop → Type 0
Fails R S from to (Piece p stop) = StopsAt R S from to p stop
Fails R S from to Memory = Unit {0}

-- there is an answer to each piece of a run, in their order
pub record AnswerAll {Out : Type 0} (R : ℕ → Out → Type 0) (from to : ℕ) (outs : List Out) : Type 0 where
  pub count : from + length outs ≡ to
  pub each : AreAnswers R from outs

-- the answers to the pieces of a run, or why there are none
abbrev pub Fanned : {Out Stop : Type 0} → (ℕ → Out → Type 0) → (ℕ → Stop → Type 0) → ℕ → ℕ → Result (Vec Out Global) (FanError Stop) → Type 0
Fanned R S from to (Ok outs) = AnswerAll R from to outs.items
Fanned R S from to (Err e) = Fails R S from to e
