use Rattle.std.proofs.Common.{◌≡◌, ◌∷◌, All, map, take, flat_map}
use Rattle.logic_meaning.specs.FieldsPoints.{infinity_of, atom_points}
use Rattle.normal_atoms.specs.Atoms.{atom_of}
use Rattle.test_points.specs.Points.{place_of, IsPointOf}
use Rattle.test_points.proofs.fields.field_points.Given as goal

abbrev pub invariant-loop-atom : goal.invariant-loop-atom
invariant-loop-atom l = record {
  places : map place_of l.points.items ≡ infinity_of l.side ∷ flat_map (atom_points l.side l.x.number) (map atom_of (take l.atom-index l.atoms));
  well_formed : All (IsPointOf l.x) l.points.items;
}
