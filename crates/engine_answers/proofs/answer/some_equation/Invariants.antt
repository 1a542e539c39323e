use Rattle.std.proofs.Common.{drop}
use Rattle.std.specs.List.{AllByRecursion}
use Rattle.logic_meaning.specs.Some.{SomeOf}
use Rattle.formula_store.specs.declared.id.FormulaId.{FormulaId}
use Rattle.formula_store.specs.Nodes.{tree, IsId}
use Rattle.engine_answers.specs.Equations.{IsEquation}
use Rattle.engine_answers.proofs.answer.some_equation.Given as goal

-- the ids left are of the store, and where one of all is an equation, one of them is
abbrev pub invariant-loop-id : goal.invariant-loop-id
invariant-loop-id l = record {
  ids : AllByRecursion (IsId l.store) (drop l.id-index l.ids);
  later : SomeOf (λ (id : FormulaId). IsEquation (tree l.store id)) l.ids → SomeOf (λ (id : FormulaId). IsEquation (tree l.store id)) (drop l.id-index l.ids);
}
