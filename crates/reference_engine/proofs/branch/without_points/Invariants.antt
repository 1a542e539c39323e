use Rattle.nnf_trees.specs.Nnfs.{AreProper}
use Rattle.reference_engine.specs.Stand.{AreSound}
use Rattle.reference_engine.proofs.Standing.{AreLeavesBefore}
use Rattle.reference_engine.proofs.branch.without_points.Given as goal

-- the formulas so far have become leaves
abbrev pub invariant-loop-formula : goal.invariant-loop-formula
invariant-loop-formula l = record {
  can : (goal.iterator-loop-formula).can_next l.formula-iterator;
  finite : (goal.iterator-loop-formula).is_finite l.formula-iterator;
  leaves : AreLeavesBefore l.leaves.items l.formula-iterator.rest.items l.fn.formulas.items;
  sound : AreSound l.leaves.items;
  rest : AreProper l.formula-iterator.rest.items;
}
