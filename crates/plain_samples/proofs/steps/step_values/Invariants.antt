use Rattle.std.proofs.Common.{◌≡◌, drop, []}
use Rattle.normal_atoms.specs.Atoms.{context_of}
use Rattle.sample_reference.specs.Seen.{values_of}
use Rattle.logic_meaning.specs.Calculated.{values_from}
use Rattle.plain_samples.specs.Steps.{steps_of}
use Rattle.plain_samples.proofs.steps.step_values.Given as goal

-- the values of the steps left, behind those that are found, are those of all
abbrev pub invariant-loop-step : goal.invariant-loop-step
invariant-loop-step l = values_from (context_of l.context) (steps_of (drop l.step-index l.steps)) (values_of l.found.items) ≡ values_from (context_of l.context) (steps_of l.steps) []
