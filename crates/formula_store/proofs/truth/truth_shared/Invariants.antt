use Rattle.std.proofs.Common.{◌≡◌, ◌+◌, false, take, length, get_or}
use Rattle.std.specs.List.{AllByRecursion}
use Rattle.formula_tree.specs.FromLinearForms.{point_of}
use Rattle.formula_store.specs.declared.id.FormulaId.{FormulaId}
use Rattle.formula_store.specs.Nodes.{tree}
use Rattle.formula_store.specs.Truths.{Tells}
use Rattle.formula_store.proofs.truth.truth_shared.Given as goal

abbrev pub invariant-loop-id : goal.invariant-loop-id
invariant-loop-id g l =
    AllByRecursion (λ (id : FormulaId). Tells (get_or l.table.items id.number false) (tree l.store id) (point_of l.at)) (take l.id-index l.id-items) × (length l.table.items ≡ length l.store)
    × (l.steps ≡ l.initial.steps + l.id-index)
