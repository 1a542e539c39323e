use Rattle.std.proofs.Common.{◌≡◌, ◌++◌, drop, map}
use Rattle.linear_forms.specs.Values.{point_of, number_of}
use Rattle.sample_reference.specs.Seen.{values_of}
use Rattle.case_theory.specs.Known.{known_at}
use Rattle.engine_answers.proofs.known.known_values.Given as goal

-- the values with those of the names left are those of all
abbrev pub invariant-loop-name : goal.invariant-loop-name
invariant-loop-name l = values_of l.known.items ++ known_at (map number_of (drop l.name-index l.name-items)) (point_of l.at) ≡ known_at (map number_of l.name-items) (point_of l.at)
