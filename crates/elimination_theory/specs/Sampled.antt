-- A sample as the reference finds it.
use Rattle.std.specs.Prelude.{ℕ, List}
use Rattle.logic_meaning.specs.Context.{Context}
use Rattle.logic_meaning.specs.Point.{Point}
use Rattle.logic_meaning.specs.Answers.{Step}
use Rattle.elimination_theory.specs.Samples.{AreSamples}
use Rattle.logic_meaning.specs.NormalForm.{normal_atom}

-- q is the point p with each name of the steps at its sample: each in its branch, with the values found so far put in
abbrev pub IsSampled : Context → Point ℕ → List Step → Point ℕ → Type 0
IsSampled c p steps q = AreSamples c (normal_atom c) steps p q
