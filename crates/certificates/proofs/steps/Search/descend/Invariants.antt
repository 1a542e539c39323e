use Rattle.std.proofs.Common.{◌≡◌, drop, map, length}
use Rattle.linear_forms.specs.Values.{number_of}
use Rattle.certificates.specs.Rows.{rows_of, all_kept}
use Rattle.certificates.specs.Search.{descent}
use Rattle.certificates.proofs.Descents.{kept_before}
use Rattle.certificates.proofs.steps.Search.descend.Given as goal

-- the steps so far and those for the names that are left are all
abbrev pub invariant-loop-name : goal.invariant-loop-name
invariant-loop-name l =
    kept_before (all_kept l.steps.items) (descent l.self.limit (map number_of (drop l.name-index l.names)) (rows_of l.rows.items) l.cost)
    ≡ descent l.self.limit (map number_of l.names) (rows_of l.fn.rows.items) (length l.fn.rows.items)
