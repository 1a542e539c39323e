use Rattle.std.proofs.Common.{◌≡◌, true, take}
use Rattle.normal_forms.specs.Atoms.{is_within}
use Rattle.normal_forms.proofs.absorption.is_within.Given as goal

abbrev pub invariant-loop-atom : goal.invariant-loop-atom
invariant-loop-atom l = is_within (take l.atom-index l.atoms) l.others ≡ true
