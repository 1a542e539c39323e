use Rattle.std.proofs.Common.{◌≤◌}
use Rattle.atom_pruning.specs.Asked.{asked_of, AreMarks}
use Rattle.atom_pruning.specs.Keeping.{KeepBelow, needed}
use Rattle.atom_pruning.proofs.pruning.taken.Given as goal

-- no negation is marked, and the marked atoms imply those so far
abbrev pub invariant-loop-place : goal.invariant-loop-place
invariant-loop-place l = record {
  marks : AreMarks (needed (asked_of l.question.rows).assumed l.atoms) l.marks.items;
  below : KeepBelow (asked_of l.question.rows).assumed l.atoms l.marks.items l.place;
  effort : l.effort ≤ l.fn.effort;
}
