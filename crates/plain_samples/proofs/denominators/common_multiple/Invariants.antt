use Rattle.std.proofs.Common.{◌≡◌, drop, pos, ◌<ℤ◌}
use Rattle.sample_reference.specs.Seen.{values_of}
use Rattle.logic_meaning.specs.Values.{multiple_with}
use Rattle.plain_samples.proofs.denominators.common_multiple.Given as goal

-- the multiple with the denominators left is that of all
abbrev pub invariant-loop-value : goal.invariant-loop-value
invariant-loop-value l = record {
  left : multiple_with l.multiple (values_of (drop l.value-index l.found)) ≡ multiple_with (pos 1) (values_of l.found);
  positive : pos 0 <ℤ l.multiple;
}
