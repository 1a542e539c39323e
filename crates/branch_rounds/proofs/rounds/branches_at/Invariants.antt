use Rattle.std.proofs.Common.{◌≡◌, map}
use Rattle.branch_rounds.specs.Branches.{branch_at}
use Rattle.branch_rounds.proofs.rounds.branches_at.Given as goal

abbrev pub invariant-loop-child : goal.invariant-loop-child
invariant-loop-child l = l.branches.items ≡ map (branch_at l.points l.left) l.yielded
