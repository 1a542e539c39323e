use Rattle.std.proofs.Common.{◌≡◌, ◌++◌}
use Rattle.atom_pruning.specs.Kept.{marked as marked_of}
use Rattle.narrowed_blocks.proofs.setting.marked.Given as goal

-- what is kept, and what is still to come
abbrev pub invariant-loop-atom : goal.invariant-loop-atom
invariant-loop-atom l = l.kept.items ++ marked_of l.marks.rest.now l.atom-iterator.rest.items ≡ marked_of l.marks-2 l.fn.atoms.items
