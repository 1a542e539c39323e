use Rattle.std.proofs.Common.{◌≡◌, ℕ, ◌↔◌, take}
use Rattle.free_names.specs.Scopes.{IsIn}
use Rattle.free_names.proofs.missing.without.Given as goal

abbrev pub invariant-loop-other : goal.invariant-loop-other
invariant-loop-other l = (n : ℕ) → IsIn n l.rest.items ↔ ((¬ (l.number ≡ n)) × IsIn n (take l.other-index l.numbers))
