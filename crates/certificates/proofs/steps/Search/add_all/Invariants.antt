use Rattle.std.proofs.Common.{◌≡◌, drop, pos, ◌<ℤ◌}
use Rattle.std.specs.Prelude.{flat_map}
use Rattle.logic_meaning.specs.Form.{coefficient}
use Rattle.logic_meaning.specs.Some.{EachOf}
use Rattle.logic_meaning.specs.Search.{new_rows}
use Rattle.certificates.specs.Rows.{rows_of, kept_of}
use Rattle.certificates.specs.Search.{pairs_with, all_pairs, after}
use Rattle.certificates.proofs.steps.Search.add_all.Given as goal

-- the rows so far and the new rows of the pairs that are left are all
abbrev pub invariant-loop-upper : goal.invariant-loop-upper
invariant-loop-upper l = record {
  told : after (rows_of l.rows.items) (new_rows l.self.limit l.step.name.number (flat_map (pairs_with (rows_of l.step.lowers.items)) (rows_of (drop l.upper-index l.upper-items))) l.cost)
      ≡ after (rows_of l.fn.rows.items) (new_rows l.self.limit l.step.name.number (all_pairs (kept_of l.step)) l.fn.cost);
  bounds : EachOf (λ r. pos 0 <ℤ coefficient l.step.name.number r.form) (rows_of (drop l.upper-index l.upper-items));
}
