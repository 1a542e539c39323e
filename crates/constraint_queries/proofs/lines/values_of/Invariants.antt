use Rattle.std.proofs.Common.{◌≡◌, map, take}
use Rattle.sample_reference.specs.Seen.{values_of}
use Rattle.certificates.specs.Certificates.{value_of}
use Rattle.constraint_queries.proofs.lines.values_of.Given as goal

-- the values so far
abbrev pub invariant-loop-name : goal.invariant-loop-name
invariant-loop-name l = values_of l.values.items ≡ map value_of (take l.name-index l.point)
