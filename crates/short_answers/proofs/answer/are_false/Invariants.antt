use Rattle.std.proofs.Common.{◌≡◌, take}
use Rattle.logic_meaning.specs.Formula.{No}
use Rattle.logic_meaning.specs.Some.{EachOf}
use Rattle.formula_store.specs.Nodes.{tree}
use Rattle.branch_rounds.specs.Branches.{Seen}
use Rattle.short_answers.proofs.answer.are_false.Given as goal

-- those so far are false
abbrev pub invariant-loop-branch : goal.invariant-loop-branch
invariant-loop-branch l = EachOf (λ (b : Seen). tree l.store b.formula ≡ No) (take l.branch-index l.branches)
