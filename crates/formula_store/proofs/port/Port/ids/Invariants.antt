use Rattle.std.proofs.Common.{◌≡◌, map, take}
use Rattle.formula_store.specs.Copies.{ported}
use Rattle.formula_store.proofs.port.Port.ids.Given as goal

abbrev pub invariant-loop-id : goal.invariant-loop-id
invariant-loop-id l = l.found.items ≡ map (ported l.self.begun l.self.ids.now) (take l.id-index l.ids)
