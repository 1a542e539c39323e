use Rattle.std.proofs.Common.{take}
use Rattle.normal_forms.specs.Paths.{Grows}
use Rattle.normal_forms.proofs.PathLaws.{Way}
use Rattle.normal_forms.proofs.paths.Paths.add.Given as goal

abbrev pub invariant-loop-atom : goal.invariant-loop-atom
invariant-loop-atom l = record {
  grows : Grows l.initial.self l.self;
  way : Way l.self 0 (take l.atom-index l.atoms) l.place;
}
