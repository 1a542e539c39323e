use Rattle.std.proofs.Common.{◌≡◌, take}
use Rattle.std.specs.Map.{keys_of}
use Rattle.session_state.specs.Keeping.{ids_bound}
use Rattle.session_state.proofs.state.rebound.Given as goal

-- the names before the place, with their new ids
abbrev pub invariant-loop-place : goal.invariant-loop-place
invariant-loop-place l = record {
  names : keys_of l.new ≡ take l.place (keys_of l.bindings);
  ids : ids_bound l.new ≡ take l.place l.ids;
}
