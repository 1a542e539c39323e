use Rattle.std.proofs.Common.{◌≡◌, ℕ, pos}
use Rattle.linear_forms.specs.Values.{number_at}
use Rattle.qe_parallel.specs.Fanned.{AnswerAll}
use Rattle.program_meaning.specs.Scales.{choice}
use Rattle.point_grid.specs.Truths.{IsTruthAt}
use Rattle.point_grid.proofs.truths.truths_between.Given as goal

-- the truths so far, and numbers over which each choice is that over zeros
abbrev pub invariant-loop-index : goal.invariant-loop-index
invariant-loop-index l = record {
  truths : AnswerAll (IsTruthAt (record { nodes = l.store; root = l.root; grid = l.grid })) l.from l.index l.truths.items;
  clear : (n : ℕ) → choice (number_at l.values) l.grid.scales n ≡ choice (λ _. pos 0) l.grid.scales n;
  denominator : l.values.denominator ≡ l.grid.denominator;
}
