use Rattle.std.proofs.Common.{◌≡◌, take}
use Rattle.session_state.specs.Keeping.{ids_bound}
use Rattle.session_state.proofs.state.bound_ids.Given as goal

-- the ids before the place
abbrev pub invariant-loop-place : goal.invariant-loop-place
invariant-loop-place l = l.ids.items ≡ take l.place (ids_bound l.bindings)
