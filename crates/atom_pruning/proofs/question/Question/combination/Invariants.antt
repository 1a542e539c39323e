use Rattle.std.proofs.Common.{ℕ, map}
use Rattle.logic_meaning.specs.Point.{Point}
use Rattle.linear_theory.specs.Meeting.{MeetsAll}
use Rattle.certificates.specs.Constraints.{constraint_of}
use Rattle.atom_pruning.specs.Asked.{asked_of, MeetsMarked}
use Rattle.atom_pruning.proofs.question.Question.combination.Given as goal

-- the constraints so far are met where the marked rows are
abbrev pub invariant-loop-place : goal.invariant-loop-place
invariant-loop-place l = (p : Point ℕ) → MeetsMarked p (asked_of l.self.rows) l.marks → MeetsAll p (map constraint_of l.combination.constraints.items)
