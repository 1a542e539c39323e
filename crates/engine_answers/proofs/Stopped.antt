-- The sample of a formula without free names that stops at a limit.
use Rattle.std.proofs.Common.{◌≡◌, ℕ, subst}
use Rattle.logic_meaning.specs.Context.{Context}
use Rattle.logic_meaning.specs.Measured.{Stop, stopped}
use Rattle.logic_meaning.specs.Point.{Point}
use Rattle.logic_meaning.specs.Tree.{Tree}
use Rattle.logic_meaning.specs.ReferenceSample.{reference_sample}
use Rattle.logic_meaning.specs.Values.{origin}
use Rattle.engine_answers.specs.Decided.{SampleStops}

-- the sample at a point that is the origin stops
pub sample_stops : (c : Context) (limit : ℕ) (f : Tree) {p : Point ℕ} → p ≡ origin → (e : Stop) × (reference_sample c limit p f ≡ stopped e) → SampleStops c limit f
sample_stops c limit f e h = subst (λ (q : Point ℕ). (s : Stop) × (reference_sample c limit q f ≡ stopped s)) e h
