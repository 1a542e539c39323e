use Rattle.std.proofs.Common.{map}
use Rattle.logic_meaning.specs.Some.{EachOf}
use Rattle.normal_atoms.specs.Atoms.{context_of, atom_of}
use Rattle.logic_meaning.specs.NormalForm.{IsNormal}
use Rattle.logic_meaning.specs.Cases.{Case}
use Rattle.reference_engine.specs.Case.{case_seen, leaf_case, HavePoints}
use Rattle.reference_engine.specs.Stand.{AreSound}
use Rattle.shape_theory.specs.Orderly.{IsOrderly}
use Rattle.formula_tree.specs.Makers.{Keeps}
use Rattle.formula_store.specs.Nodes.{tree, IsId}
use Rattle.form_commands.proofs.CaseLemmas.{LeavesAll}
use Rattle.form_commands.proofs.guards.left_cases.Given as goal

-- what is left of the cases so far
abbrev pub invariant-loop-leaf : goal.invariant-loop-leaf
invariant-loop-leaf l = record {
  can : (goal.iterator-loop-leaf).can_next l.leaf-iterator;
  finite : (goal.iterator-loop-leaf).is_finite l.leaf-iterator;
  left : LeavesAll (context_of l.context) (map atom_of l.atoms) (map case_seen l.cases.items) (map leaf_case l.leaf-iterator.rest.items) (map leaf_case l.fn.leaves.items);
  points : HavePoints l.cases.items;
  sound : AreSound l.leaf-iterator.rest.items;
  orderly : EachOf (λ (k : Case). IsOrderly (IsNormal (context_of l.context)) k.guard) (map leaf_case l.leaf-iterator.rest.items);
  kept : Keeps (IsId l.fn.store) (tree l.fn.store) (IsId l.store) (tree l.store);
}
