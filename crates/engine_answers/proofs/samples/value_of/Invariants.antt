use Rattle.std.proofs.Common.{drop}
use Rattle.logic_meaning.specs.Some.{Among}
use Rattle.sample_reference.specs.Seen.{values_of}
use Rattle.logic_meaning.specs.Values.{value_names}
use Rattle.engine_answers.proofs.samples.value_of.Given as goal

-- none of the values so far is one of the name
abbrev pub invariant-loop-value : goal.invariant-loop-value
invariant-loop-value l = Among (value_names (values_of l.values)) l.name.number → Among (value_names (values_of (drop l.value-index l.values))) l.name.number
