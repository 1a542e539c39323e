use Rattle.std.proofs.Common.{◌≡◌, ◌++◌, map, drop}
use Rattle.logic_meaning.specs.Some.{Among, EachOf}
use Rattle.linear_forms.specs.Values.{number_of}
use Rattle.sample_reference.specs.Seen.{values_of}
use Rattle.logic_meaning.specs.Values.{value_names}
use Rattle.engine_answers.proofs.samples.in_order.Given as goal

-- the names so far have their values, in their order
abbrev pub invariant-loop-name : goal.invariant-loop-name
invariant-loop-name l = record {
  named : value_names (values_of l.ordered.items) ++ map number_of (drop l.name-index l.names) ≡ map number_of l.names;
  each : EachOf (Among (values_of l.values)) (values_of l.ordered.items);
}
