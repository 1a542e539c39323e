use Rattle.std.proofs.Common.{drop}
use Rattle.normal_atoms.specs.Atoms.{context_of}
use Rattle.reference_engine.specs.Stand.{AreSound}
use Rattle.reference_engine.proofs.Stepping.{AreLeft}
use Rattle.reference_engine.proofs.step.leaves_at.Given as goal

-- the points left lead where all points lead
abbrev pub invariant-loop-point : goal.invariant-loop-point
invariant-loop-point l = record {
  left : AreLeft (context_of l.setting.context) l.fn.x.number l.leaf l.left.items (drop l.point-index l.points) l.points;
  sound : AreSound l.left.items;
}
