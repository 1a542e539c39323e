use Rattle.std.proofs.Common.{List}
use Rattle.logic_meaning.specs.Reference.{Branch}
use Rattle.reference_engine.specs.Stand.{StandFor, AreSound}
use Rattle.plain_samples.proofs.TracedCasesChoosing.{IsBehind}
use Rattle.plain_samples.proofs.first.first_true.Given as goal

-- no leaf before those left is true
abbrev pub invariant-loop-leaf : goal.invariant-loop-leaf
invariant-loop-leaf l = record {
  can : (goal.iterator-loop-leaf).can_next l.leaf-iterator;
  finite : (goal.iterator-loop-leaf).is_finite l.leaf-iterator;
  behind : (bs : List Branch) → StandFor l.fn.leaves.items bs → IsBehind bs l.leaf-iterator.rest.items;
  sound : AreSound l.leaf-iterator.rest.items;
}
