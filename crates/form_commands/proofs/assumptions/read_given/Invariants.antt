use Rattle.std.proofs.Common.{◌≡◌, None, map, take, drop}
use Rattle.std.specs.List.{AllByRecursion}
use Rattle.written_syntax.specs.Writable.{IsWritableFormula}
use Rattle.language_meaning.specs.Trees.{formulas_of}
use Rattle.written_syntax.specs.CodeTrees.{formula_tree}
use Rattle.formula_store.specs.Nodes.{tree, IsId}
use Rattle.formula_tree.specs.Makers.{AreMade}
use Rattle.program_meaning.specs.Assumptions.{resolved_all}
use Rattle.session_state.specs.Keeping.{state_of}
use Rattle.session_state.specs.Growth.{KeepsState}
use Rattle.form_commands.specs.Reading.{HasNumbers, FirstAmong, AppliesToSome}
use Rattle.form_commands.proofs.assumptions.read_given.Given as goal

-- the first cause in the formulas so far, and where there is none, their ids
abbrev pub invariant-loop-formula : goal.invariant-loop-formula
invariant-loop-formula l = record {
  first : FirstAmong (AppliesToSome (state_of l.fn.state) (take l.formula-index l.given)) l.stop;
  made : l.stop ≡ None → AreMade (IsId l.state.store) (tree l.state.store) l.ids.items (resolved_all (state_of l.fn.state) (formulas_of (map formula_tree (take l.formula-index l.given))));
  proper : AllByRecursion (λ g. IsWritableFormula (formula_tree g)) (drop l.formula-index l.given);
  numbered : AllByRecursion (λ g. HasNumbers l.fn.state.names (formula_tree g)) (drop l.formula-index l.given);
  kept : KeepsState l.fn.state l.state;
}
