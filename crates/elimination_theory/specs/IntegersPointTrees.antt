-- Scale, span and test points of a formula over the integers.
use Rattle.std.specs.Prelude.{ℕ, List}
use Rattle.logic_meaning.specs.Answer.{Place}
use Rattle.logic_meaning.specs.Tree.{Tree}
use Rattle.logic_meaning.specs.Atoms.{atoms_of}
use Rattle.logic_meaning.specs.declared.side.Side.{Side}
use Rattle.logic_meaning.specs.IntegersPoints.{scale_of, own_span, integer_points_of}

-- the same of a name in a formula
abbrev pub integer_scale : ℕ → Tree → ℕ
integer_scale x f = scale_of x (atoms_of f)

abbrev pub integer_span : ℕ → Tree → ℕ
integer_span x f = own_span x (atoms_of f)

abbrev pub integer_points : Side → ℕ → Tree → List Place
integer_points side x f = integer_points_of side x (atoms_of f)
