use Rattle.std.proofs.Common.{◌≡◌, ◌++◌, drop}
use Rattle.engine_answers.specs.Assumed.{lacking}
use Rattle.engine_answers.proofs.assumed.without_names.Given as goal

-- the atoms so far and those of what is left are those of all
abbrev pub invariant-loop-atom : goal.invariant-loop-atom
invariant-loop-atom l = l.left.items ++ lacking l.names (drop l.atom-index l.theory) ≡ lacking l.names l.theory
