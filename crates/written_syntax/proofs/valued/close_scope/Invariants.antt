use Rattle.std.proofs.Common.{take}
use Rattle.std.specs.Ordering.{nat_cmp}
use Rattle.std.specs.Cmp.Lexicographic.{slice_cmp}
use Rattle.std.specs.BTreeSet.{contains}
use Rattle.written_syntax.specs.Valued.{IsClosed}
use Rattle.written_syntax.proofs.valued.close_scope.Given as goal

-- the names so far are out
abbrev pub invariant-loop-name : goal.invariant-loop-name
invariant-loop-name l = IsClosed (contains (slice_cmp nat_cmp) l.initial.names) (contains (slice_cmp nat_cmp) l.names) (take l.name-index l.opened)
