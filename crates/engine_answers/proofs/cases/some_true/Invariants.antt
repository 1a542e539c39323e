use Rattle.std.proofs.Common.{◌≡◌, drop}
use Rattle.logic_meaning.specs.Formula.{Yes}
use Rattle.logic_meaning.specs.Some.{EachOf, SomeOf}
use Rattle.formula_store.specs.Nodes.{tree, IsId}
use Rattle.engine_answers.specs.declared.case_tree.Case.{Case}
use Rattle.engine_answers.proofs.cases.some_true.Given as goal

-- none of the guards so far is `true`, and those left are formulas of the store
abbrev pub invariant-loop-case : goal.invariant-loop-case
invariant-loop-case l = record {
  ids : EachOf (λ (k : Case). IsId l.store k.guard) (drop l.case-index l.cases);
  later : SomeOf (λ (k : Case). tree l.store k.guard ≡ Yes) l.cases → SomeOf (λ (k : Case). tree l.store k.guard ≡ Yes) (drop l.case-index l.cases);
}
