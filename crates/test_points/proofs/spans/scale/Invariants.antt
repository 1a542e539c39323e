use Rattle.std.proofs.Common.{◌≡◌, map, length, unsigned_abs}
use Rattle.std.proofs.Math.IntN.{pos}
use Rattle.std.specs.Prelude.{◌<ℤ◌}
use Rattle.exact_numbers.specs.Limit.{InLimit}
use Rattle.logic_meaning.specs.IntegersPoints.{scale_of}
use Rattle.normal_atoms.specs.Atoms.{atom_of}
use Rattle.test_points.proofs.Multiples.{scale_from}
use Rattle.test_points.proofs.spans.scale.Given as goal

abbrev pub invariant-loop-atom : goal.invariant-loop-atom
invariant-loop-atom l = record {
  rest : scale_from l.x.number (unsigned_abs l.scale) (map atom_of l.left) ≡ scale_of l.x.number (map atom_of l.fn.atoms);
  positive : pos 0 <ℤ l.scale;
  within : InLimit l.scale;
}

abbrev pub decreases-loop-atom : goal.decreases-loop-atom
decreases-loop-atom l = length l.left
