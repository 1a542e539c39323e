use Rattle.std.proofs.Common.{◌≡◌, ◌≤◌, length}
use Rattle.branch_pruning.proofs.AtomLists.{ImpliesFirst}
use Rattle.branch_pruning.proofs.comparing.Comparer.implies_each.Given as goal

abbrev pub invariant-loop-id : goal.invariant-loop-id
invariant-loop-id l =
    (goal.iterator-loop-id).can_next l.id-iterator
    × (goal.iterator-loop-id).is_finite l.id-iterator
    × (l.self.assumed.items ≡ l.fn.self.assumed.items)
    × (l.self.effort ≤ l.fn.self.effort)
    × ImpliesFirst l.fn.self.assumed.items l.given l.other (length l.yielded)
