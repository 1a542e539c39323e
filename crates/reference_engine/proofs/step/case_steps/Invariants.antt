use Rattle.std.proofs.Common.{List}
use Rattle.normal_atoms.specs.Atoms.{context_of}
use Rattle.logic_meaning.specs.Reference.{Branch, steps}
use Rattle.reference_engine.specs.Stand.{StandFor, AreSound, AreInside}
use Rattle.reference_engine.proofs.Stepping.{IsOnTheWay}
use Rattle.reference_engine.proofs.step.case_steps.Given as goal

-- the steps of the leaves left lead where all steps lead
abbrev pub invariant-loop-leaf : goal.invariant-loop-leaf
invariant-loop-leaf l = record {
  can : (goal.iterator-loop-leaf).can_next l.leaf-iterator;
  finite : (goal.iterator-loop-leaf).is_finite l.leaf-iterator;
  way : (bs : List Branch) → StandFor l.fn.leaves.items bs →
      IsOnTheWay (context_of l.setting.context) l.setting.limit l.x.number l.left.items l.leaf-iterator.rest.items l.cost (steps (context_of l.setting.context) l.setting.limit l.x.number bs l.fn.cost);
  left : AreSound l.left.items;
  rest : AreSound l.leaf-iterator.rest.items;
  inside : AreInside (context_of l.setting.context) l.leaf-iterator.rest.items;
}
