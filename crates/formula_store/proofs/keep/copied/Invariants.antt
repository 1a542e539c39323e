use Rattle.std.proofs.Common.{◌≡◌, ◌≤◌, ◌+◌, take, length, get_or}
use Rattle.std.specs.List.{AllByRecursion}
use Rattle.formula_store.specs.declared.id.FormulaId.{FormulaId}
use Rattle.formula_store.specs.Copies.{first_id, Copied}
use Rattle.formula_store.proofs.keep.copied.Given as goal

abbrev pub invariant-loop-id : goal.invariant-loop-id
invariant-loop-id l =
    AllByRecursion (λ (id : FormulaId). Copied l.store l.into id (get_or l.table.items id.number first_id)) (take l.id-index l.id-items) × (length l.table.items ≡ length l.store)
    × (length l.into ≤ length l.initial.into + l.id-index)
