use Rattle.std.proofs.Common.{◌≡◌, take, map, flat_map}
use Rattle.logic_meaning.specs.declared.side.Side.{Side}
use Rattle.logic_meaning.specs.FieldsPoints.{atom_points}
use Rattle.normal_atoms.specs.Atoms.{atom_of}
use Rattle.branch_points.specs.Chosen.{listed_atoms}
use Rattle.branch_points.proofs.fields.atoms_with.Given as goal

-- the points of the atoms of the formulas so far
abbrev pub invariant-loop-id : goal.invariant-loop-id
invariant-loop-id l =
    (side : Side) → flat_map (atom_points side l.x.number) (map atom_of l.atoms.items) ≡ flat_map (atom_points side l.x.number) (map atom_of (listed_atoms l.store (take l.id-index l.ids)))
