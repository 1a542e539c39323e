use Rattle.std.proofs.Common.{◌≡◌, ◌++◌, true, All, map, flat_map, take, unsigned_abs}
use Rattle.logic_meaning.specs.Limits.{each, place_within}
use Rattle.normal_atoms.specs.Atoms.{atom_of}
use Rattle.test_points.specs.Points.{place_of, IsPointOf}
use Rattle.test_points.specs.Starts.{beside_atom}
use Rattle.test_points.proofs.cooper_periods_ends.push_atoms.Given as goal

abbrev pub invariant-loop-atom : goal.invariant-loop-atom
invariant-loop-atom l = record {
  places : map place_of l.points.items ≡ map place_of l.initial.points.items ++ flat_map (beside_atom l.side (unsigned_abs l.period.scale) (unsigned_abs l.period.span) l.x.number) (map atom_of (take l.atom-index l.atoms));
  well_formed : All (IsPointOf l.x) l.points.items;
  within : each place_within (flat_map (beside_atom l.side (unsigned_abs l.period.scale) (unsigned_abs l.period.span) l.x.number) (map atom_of (take l.atom-index l.atoms))) ≡ true;
}
