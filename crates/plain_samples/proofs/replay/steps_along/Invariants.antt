use Rattle.std.proofs.Common.{◌≡◌, ◌++◌, All}
use Rattle.normal_atoms.specs.Atoms.{context_of}
use Rattle.nnf_trees.specs.Nnfs.{nnf_of, IsProper}
use Rattle.plain_samples.specs.Steps.{steps_of, IsStep}
use Rattle.plain_samples.specs.Replay.{taken_from, AreTakable}
use Rattle.plain_samples.proofs.replay.steps_along.Given as goal

-- the steps so far, and those of the points left, are all steps
abbrev pub invariant-loop-point : goal.invariant-loop-point
invariant-loop-point l = record {
  can : (goal.iterator-loop-point).can_next l.point-iterator;
  finite : (goal.iterator-loop-point).is_finite l.point-iterator;
  proper : IsProper l.formula;
  takable : AreTakable (context_of l.context) (nnf_of l.formula) l.point-iterator.rest.items;
  steps : steps_of l.steps.items ++ taken_from (context_of l.context) (nnf_of l.formula) l.point-iterator.rest.items ≡ taken_from (context_of l.context) (nnf_of l.fn.root) l.fn.points.items;
  sound : All (IsStep (context_of l.context)) l.steps.items;
}
