use Rattle.std.proofs.Common.{◌≡◌, length}
use Rattle.formula_store.proofs.Taking.{Taken}
use Rattle.formula_store.proofs.absorb.taken_in.Given as goal

abbrev pub invariant-loop-place : goal.invariant-loop-place
invariant-loop-place l = (length l.ids.items ≡ l.place) × Taken l.initial.store l.delta l.ids.items l.store
