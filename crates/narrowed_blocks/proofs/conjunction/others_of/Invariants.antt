use Rattle.std.proofs.Common.{◌≡◌, ◌++◌, drop}
use Rattle.narrowed_blocks.specs.Narrowing.{others_of}
use Rattle.narrowed_blocks.proofs.conjunction.others_of.Given as goal

-- the names so far and those of what is left are those of all
abbrev pub invariant-loop-other : goal.invariant-loop-other
invariant-loop-other l = l.others.items ++ others_of l.name (drop l.other-index l.names) ≡ others_of l.name l.names
