use Rattle.std.proofs.Common.{◌≡◌, take}
use Rattle.branch_points.specs.Chosen.{listed_atoms}
use Rattle.branch_points.proofs.atoms.atoms_among.Given as goal

-- the atoms of the formulas so far
abbrev pub invariant-loop-id : goal.invariant-loop-id
invariant-loop-id l = l.atoms.items ≡ listed_atoms l.store (take l.id-index l.ids)
