use Rattle.std.proofs.Common.{◌≡◌, map, take}
use Rattle.linear_forms.specs.Values.{number_of}
use Rattle.logic_meaning.specs.Names.{place}
use Rattle.constraint_queries.proofs.certify.places_of.Given as goal

-- the places so far
abbrev pub invariant-loop-number : goal.invariant-loop-number
invariant-loop-number l = map number_of l.places.items ≡ map (place l.state.names) (take l.number l.own)
