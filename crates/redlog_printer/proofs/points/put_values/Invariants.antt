use Rattle.std.proofs.Common.{◌≡◌, ◌++◌, [], length, map, drop}
use Rattle.sample_reference.specs.Seen.{values_of}
use Rattle.logic_meaning.specs.AnswerTexts.{separated}
use Rattle.logic_meaning.specs.PointTexts.{value_text}
use Rattle.redlog_printer.specs.Within.{AreValuesWithin}
use Rattle.redlog_printer.proofs.points.put_values.Given as goal

-- what is written and what is left is the whole text
abbrev pub invariant-loop-value : goal.invariant-loop-value
invariant-loop-value l = record {
  left : l.out ++ separated l.before (map (value_text l.names) (values_of (drop l.value-index l.values))) ≡ l.fn.out ++ separated [] (map (value_text l.names) (values_of l.values));
  within : AreValuesWithin (length l.names) (values_of (drop l.value-index l.values));
}
