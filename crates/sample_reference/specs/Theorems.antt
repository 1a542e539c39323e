-- What is proved of the reference sample.
use Rattle.std.specs.Prelude.{ℕ}
use Rattle.logic_meaning.specs.Context.{Context}
use Rattle.logic_meaning.specs.Every.{Every}
use Rattle.logic_meaning.specs.Point.{Point, Of}
use Rattle.logic_meaning.specs.Tree.{Tree, IsFree}
use Rattle.logic_meaning.specs.NormalForm.{IsNormal}
use Rattle.formula_laws.specs.Giving.{Gives}
use Rattle.logic_meaning.specs.Values.{origin}
use Rattle.logic_meaning.specs.ReferenceSample.{reference_sample}
use Rattle.sample_reference.specs.TrueSample.{closed_sample, IsTrueSample}

-- At a point: where there are values the matrix is true with them, and there are none exactly where the formula is false.
abbrev pub SampleIsTrue : Context → Type 0
SampleIsTrue c = (limit : ℕ) (f : Tree) (p : Point ℕ) → Every (IsNormal c) f → Of c p → Gives (λ r. IsTrueSample c f p r.0) (reference_sample c limit p f)

-- The same of a formula without free names.
abbrev pub ClosedSampleIsTrue : Context → Type 0
ClosedSampleIsTrue c = (limit : ℕ) (f : Tree) → Every (IsNormal c) f → ((y : ℕ) → ¬ (IsFree f y)) → Gives (λ r. IsTrueSample c f origin r.0) (closed_sample c limit f)
