use Rattle.std.proofs.Common.{◌≡◌, false, take, get_or}
use Rattle.logic_meaning.specs.Some.{SomeOf}
use Rattle.formula_store.specs.declared.id.FormulaId.{FormulaId}
use Rattle.formula_store.proofs.truth.some_is.Given as goal

abbrev pub invariant-loop-id : goal.invariant-loop-id
invariant-loop-id l = ¬ (SomeOf (λ (id : FormulaId). get_or l.table.items id.number false ≡ l.wanted) (take l.id-index l.ids))
