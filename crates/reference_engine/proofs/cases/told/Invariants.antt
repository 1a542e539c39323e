use Rattle.std.proofs.Common.{◌≡◌, ◌++◌, map}
use Rattle.reference_engine.specs.Case.{case_seen, leaf_case, HavePoints}
use Rattle.reference_engine.specs.Stand.{AreSound}
use Rattle.reference_engine.proofs.cases.told.Given as goal

-- the leaves so far have become cases
abbrev pub invariant-loop-leaf : goal.invariant-loop-leaf
invariant-loop-leaf l = record {
  can : (goal.iterator-loop-leaf).can_next l.leaf-iterator;
  finite : (goal.iterator-loop-leaf).is_finite l.leaf-iterator;
  cases : map case_seen l.cases.items ++ map leaf_case l.leaf-iterator.rest.items ≡ map leaf_case l.fn.leaves.items;
  points : HavePoints l.cases.items;
  rest : AreSound l.leaf-iterator.rest.items;
}
