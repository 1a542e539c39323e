use Rattle.std.proofs.Common.{drop}
use Rattle.sample_reference.specs.Seen.{values_of}
use Rattle.plain_samples.proofs.OneDenominator.{AreOverBefore}
use Rattle.plain_samples.proofs.denominators.values_over.Given as goal

abbrev pub invariant-loop-value : goal.invariant-loop-value
invariant-loop-value l = AreOverBefore l.denominator (values_of l.found) (values_of (drop l.value-index l.found)) l.values
