use Rattle.std.proofs.Common.{◌≡◌, drop, map, pos}
use Rattle.exact_numbers.specs.Fraction.{frac_of}
use Rattle.logic_meaning.specs.Form.{coefficient}
use Rattle.logic_meaning.specs.Some.{EachOf}
use Rattle.logic_meaning.specs.Bounds.{bounds_of}
use Rattle.certificates.specs.Rows.{rows_of}
use Rattle.certificates.proofs.Ascents.{bounds_after}
use Rattle.certificates.proofs.found.Found.bounds.Given as goal

-- the bounds so far and those of the rows left are all
abbrev pub invariant-loop-row : goal.invariant-loop-row
invariant-loop-row l = record {
  told : bounds_after (map frac_of l.bounds.items) (bounds_of l.name.number l.self (rows_of (drop l.row-index l.rows))) ≡ bounds_of l.name.number l.self (rows_of l.rows);
  stands : EachOf (λ r. ¬ (coefficient l.name.number r.form ≡ pos 0)) (rows_of (drop l.row-index l.rows));
}
