use Rattle.std.proofs.Common.{take}
use Rattle.normal_forms.specs.Paths.{Grows}
use Rattle.normal_forms.specs.Sieves.{ArePaths}
use Rattle.normal_forms.proofs.sieve.put_among.Given as goal

abbrev pub invariant-loop-number : goal.invariant-loop-number
invariant-loop-number l = record {
  grows : Grows l.initial.paths l.paths;
  paths : ArePaths l.paths (take l.number l.lines);
}
