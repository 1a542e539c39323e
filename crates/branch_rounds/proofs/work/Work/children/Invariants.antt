use Rattle.std.proofs.Common.{◌≤◌, length, map, take}
use Rattle.logic_meaning.specs.Some.{EachOf}
use Rattle.normal_atoms.specs.Atoms.{context_of, atom_of}
use Rattle.formula_tree.specs.Makers.{Keeps}
use Rattle.formula_store.specs.Nodes.{tree, IsId}
use Rattle.test_points.specs.Points.{place_of}
use Rattle.case_theory.specs.Children.{AreChildren}
use Rattle.branch_rounds.specs.Children.{IsChildOf, result_seen}
use Rattle.branch_rounds.proofs.work.Work.children.Given as goal

-- so far they are the children at the points so far
abbrev pub invariant-loop-place : goal.invariant-loop-place
invariant-loop-place g l = record {
  kept : Keeps (IsId l.fn.store) (tree l.fn.store) (IsId l.store) (tree l.store);
  since : Keeps (IsId l.initial.store) (tree l.initial.store) (IsId l.store) (tree l.store);
  each : EachOf (IsChildOf (context_of l.self.context) (tree l.fn.store l.fn.branch) l.store l.chosen.name) l.children.items;
  few : length l.children.items ≤ l.place;
  are : AreChildren (context_of l.self.context) (map atom_of l.self.assumed.now) l.chosen.name.number (tree l.fn.store l.fn.branch) (map place_of (take l.place l.chosen.points.items)) (map (result_seen l.store) l.children.items);
}
