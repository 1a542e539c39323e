use Rattle.std.proofs.Common.{◌≡◌, false, take}
use Rattle.logic_meaning.specs.Some.{EachOf}
use Rattle.linear_forms.specs.Values.{point_of}
use Rattle.formula_store.specs.Nodes.{tree}
use Rattle.formula_store.specs.Truths.{Tells}
use Rattle.engine_answers.specs.declared.case_tree.Case.{Case}
use Rattle.engine_answers.proofs.truths.true_case.Given as goal

-- no guard so far is true, where no number has passed the limit
abbrev pub invariant-loop-case : goal.invariant-loop-case
invariant-loop-case l = l.passed ≡ false → EachOf (λ (k : Case). Tells false (tree l.store k.guard) (point_of l.at)) (take l.case-index l.cases)
