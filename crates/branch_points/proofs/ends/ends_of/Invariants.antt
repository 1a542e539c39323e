use Rattle.std.proofs.Common.{take, map, nat_eq}
use Rattle.std.specs.HashMap.{get}
use Rattle.normal_atoms.specs.Atoms.{atom_of}
use Rattle.branch_points.specs.Chosen.{listed_atoms}
use Rattle.branch_points.specs.Ends.{AreEnds}
use Rattle.branch_points.proofs.ends.ends_of.Given as goal

-- the atoms of the formulas so far are counted
abbrev pub invariant-loop-id : goal.invariant-loop-id
invariant-loop-id l = AreEnds (map atom_of (listed_atoms l.store (take l.id-index l.ids))) (get nat_eq l.table)
