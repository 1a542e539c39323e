use Rattle.std.proofs.Common.{◌≡◌, [], Some, vec_len}
use Rattle.logic_meaning.specs.Some.{EachOf}
use Rattle.certificates.specs.Rows.{all_kept}
use Rattle.certificates.specs.Search.{AreBounds, ascent}
use Rattle.certificates.proofs.found.Found.ascend.Given as goal

-- the steps left lead from the values so far where all steps lead
abbrev pub invariant-loop-step : goal.invariant-loop-step
invariant-loop-step l = record {
  told : ascent (all_kept l.steps.items) (Some l.found) ≡ ascent (all_kept l.fn.steps.items) (Some []);
  bounds : EachOf AreBounds (all_kept l.steps.items);
}

abbrev pub decreases-loop-step : goal.decreases-loop-step
decreases-loop-step l = vec_len l.steps
