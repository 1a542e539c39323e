use Rattle.std.proofs.Common.{◌≡◌, drop, pos, ◌<ℤ◌}
use Rattle.logic_meaning.specs.Form.{coefficient}
use Rattle.logic_meaning.specs.Some.{EachOf}
use Rattle.logic_meaning.specs.Search.{new_rows}
use Rattle.certificates.specs.Rows.{row_of, rows_of}
use Rattle.certificates.specs.Search.{pairs_with, after}
use Rattle.certificates.proofs.steps.Search.add_with.Given as goal

-- the rows so far and the new rows of the pairs that are left are all
abbrev pub invariant-loop-lower : goal.invariant-loop-lower
invariant-loop-lower l = record {
  told : after (rows_of l.rows.items) (new_rows l.self.limit l.name.number (pairs_with (rows_of (drop l.lower-index l.lowers)) (row_of l.upper)) l.cost)
      ≡ after (rows_of l.fn.rows.items) (new_rows l.self.limit l.name.number (pairs_with (rows_of l.lowers) (row_of l.upper)) l.fn.cost);
  bounds : EachOf (λ r. coefficient l.name.number r.form <ℤ pos 0) (rows_of (drop l.lower-index l.lowers));
}
