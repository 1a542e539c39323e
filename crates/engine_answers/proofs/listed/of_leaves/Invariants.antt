use Rattle.std.proofs.Common.{◌≡◌, ◌++◌, All as Each, map}
use Rattle.logic_meaning.specs.Some.{EachOf}
use Rattle.formula_tree.specs.Makers.{Keeps}
use Rattle.formula_store.specs.Nodes.{tree, IsId}
use Rattle.test_points.specs.Points.{IsTestPoint}
use Rattle.engine_answers.specs.declared.case_tree.Case.{Case}
use Rattle.engine_answers.specs.CaseTrees.{cases_seen}
use Rattle.reference_engine.specs.Case.{leaf_case}
use Rattle.reference_engine.specs.Stand.{AreSound}
use Rattle.engine_answers.proofs.listed.of_leaves.Given as goal

-- the leaves so far have become cases
abbrev pub invariant-loop-leaf : goal.invariant-loop-leaf
invariant-loop-leaf l = record {
  can : (goal.iterator-loop-leaf).can_next l.leaf-iterator;
  finite : (goal.iterator-loop-leaf).is_finite l.leaf-iterator;
  guards : EachOf (λ (k : Case). IsId l.store k.guard) l.cases.items;
  points : EachOf (λ (k : Case). Each IsTestPoint k.answers.items) l.cases.items;
  same : cases_seen l.store l.cases.items ++ map leaf_case l.leaf-iterator.rest.items ≡ map leaf_case l.fn.leaves.items;
  rest : AreSound l.leaf-iterator.rest.items;
  kept : Keeps (IsId l.fn.store) (tree l.fn.store) (IsId l.store) (tree l.store);
}
