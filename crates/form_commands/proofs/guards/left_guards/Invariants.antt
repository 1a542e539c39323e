use Rattle.std.proofs.Common.{All as Each, map}
use Rattle.logic_meaning.specs.Some.{EachOf}
use Rattle.normal_atoms.specs.Atoms.{context_of, atom_of}
use Rattle.logic_meaning.specs.NormalForm.{IsNormal}
use Rattle.logic_meaning.specs.Cases.{Case}
use Rattle.test_points.specs.Points.{IsTestPoint}
use Rattle.reference_engine.specs.Case.{case_seen, HavePoints}
use Rattle.shape_theory.specs.Orderly.{IsOrderly}
use Rattle.formula_tree.specs.Makers.{Keeps}
use Rattle.formula_store.specs.Nodes.{tree, IsId}
use Rattle.engine_answers.specs.declared.case_tree.Case.{Case as Found}
use Rattle.engine_answers.specs.CaseTrees.{cases_seen}
use Rattle.form_commands.proofs.CaseLemmas.{LeavesAll}
use Rattle.form_commands.proofs.guards.left_guards.Given as goal

-- what is left of the cases so far
abbrev pub invariant-loop-case : goal.invariant-loop-case
invariant-loop-case l = record {
  can : (goal.iterator-loop-case).can_next l.case-iterator;
  finite : (goal.iterator-loop-case).is_finite l.case-iterator;
  left : LeavesAll (context_of l.context) (map atom_of l.atoms) (map case_seen l.cases.items) (cases_seen l.fn.store l.case-iterator.rest.items) (cases_seen l.fn.store l.fn.found.items);
  points : HavePoints l.cases.items;
  guards : EachOf (λ (k : Found). IsId l.fn.store k.guard) l.case-iterator.rest.items;
  well_formed : EachOf (λ (k : Found). Each IsTestPoint k.answers.items) l.case-iterator.rest.items;
  orderly : EachOf (λ (k : Case). IsOrderly (IsNormal (context_of l.context)) k.guard) (cases_seen l.fn.store l.case-iterator.rest.items);
  kept : Keeps (IsId l.fn.store) (tree l.fn.store) (IsId l.store) (tree l.store);
}
