use Rattle.std.proofs.Common.{take}
use Rattle.std.specs.Ordering.{nat_cmp}
use Rattle.std.specs.BTreeSet.{contains}
use Rattle.free_names.specs.Scopes.{IsClosed}
use Rattle.free_names.proofs.valued.close_scope.Given as goal

-- the numbers so far are out
abbrev pub invariant-loop-number : goal.invariant-loop-number
invariant-loop-number l = IsClosed (contains nat_cmp l.initial.opened) (contains nat_cmp l.opened) (take l.number-index l.new)
