use Rattle.std.proofs.Common.{take, nat_eq}
use Rattle.std.specs.HashMap.{get}
use Rattle.logic_meaning.specs.Form.{multiple}
use Rattle.normal_atoms.specs.Atoms.{atom_of}
use Rattle.branch_points.specs.Ends.{HaveMore}
use Rattle.branch_points.proofs.ends.count_atom.Given as goal

-- the terms so far are counted
abbrev pub invariant-loop-place : goal.invariant-loop-place
invariant-loop-place l = HaveMore (atom_of l.atom) (λ x. multiple x (take l.place l.form.terms)) (get nat_eq l.fn.table) (get nat_eq l.table)
