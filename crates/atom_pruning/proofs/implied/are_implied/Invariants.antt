use Rattle.std.proofs.Common.{◌≤◌}
use Rattle.atom_pruning.specs.Asked.{asked_of, AreMarks}
use Rattle.atom_pruning.proofs.Keeping.{ImpliedBelow}
use Rattle.atom_pruning.proofs.implied.are_implied.Given as goal

-- the marks are as they were, and the atoms so far are implied
abbrev pub invariant-loop-place : goal.invariant-loop-place
invariant-loop-place l = record {
  marks : AreMarks (asked_of l.question.rows) l.marks.items;
  implied : ImpliedBelow (asked_of l.question.rows) l.place;
  effort : l.effort ≤ l.fn.effort;
}
