use Rattle.std.proofs.Common.{◌≤◌}
use Rattle.atom_pruning.specs.Asked.{asked_of, AreMarks}
use Rattle.atom_pruning.specs.Keeping.{KeepEnough, needed}
use Rattle.atom_pruning.proofs.pruning.without_implied.Given as goal

-- no negation is marked, and the marked atoms imply all
abbrev pub invariant-loop-place : goal.invariant-loop-place
invariant-loop-place l = record {
  marks : AreMarks (needed (asked_of l.question.rows).assumed l.atoms) l.marks.items;
  enough : KeepEnough (asked_of l.question.rows).assumed l.atoms l.marks.items;
  effort : l.effort ≤ l.fn.effort;
}
