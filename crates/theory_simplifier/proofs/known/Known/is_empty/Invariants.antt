use Rattle.std.proofs.Common.{◌≡◌, [], take}
use Rattle.theory_simplifier.specs.Known.{known_atoms}
use Rattle.theory_simplifier.proofs.known.Known.is_empty.Given as goal

-- nothing is known by what was looked at so far
abbrev pub invariant-loop-frame : goal.invariant-loop-frame
invariant-loop-frame l = known_atoms (take l.frame-index l.frame-items) ≡ []
