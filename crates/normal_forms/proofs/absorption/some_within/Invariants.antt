use Rattle.std.proofs.Common.{◌≡◌, false, take}
use Rattle.normal_forms.specs.Atoms.{some_within}
use Rattle.normal_forms.proofs.absorption.some_within.Given as goal

abbrev pub invariant-loop-other : goal.invariant-loop-other
invariant-loop-other l = some_within (take l.other-index l.lines) l.line ≡ false
