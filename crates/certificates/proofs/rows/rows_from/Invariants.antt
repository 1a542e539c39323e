use Rattle.std.proofs.Common.{◌≡◌, ◌++◌, map, drop}
use Rattle.logic_meaning.specs.Rows.{rows_from}
use Rattle.certificates.specs.Constraints.{constraint_of}
use Rattle.certificates.specs.Rows.{rows_of}
use Rattle.certificates.proofs.rows.rows_from.Given as goal

-- the rows so far and those of the constraints left are all
abbrev pub invariant-loop-place : goal.invariant-loop-place
invariant-loop-place l = rows_of l.rows.items ++ rows_from l.place (map constraint_of (drop l.place l.constraints)) ≡ rows_from 0 (map constraint_of l.constraints)
