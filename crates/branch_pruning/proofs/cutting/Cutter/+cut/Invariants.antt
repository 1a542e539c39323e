use Rattle.std.proofs.Common.{◌+◌, ◌*◌, map, take}
use Rattle.logic_meaning.specs.Sizes.{nodes, all_nodes}
use Rattle.normal_atoms.specs.Atoms.{context_of}
use Rattle.formula_tree.specs.Makers.{Keeps}
use Rattle.formula_tree.specs.Trees.{members}
use Rattle.formula_store.specs.Nodes.{tree, IsId}
use Rattle.branch_pruning.specs.Cuts.{IsCutTo, IsInsideCutTo, AreIn, StaysAt}
use Rattle.branch_pruning.proofs.cutting.Cutter.+cut.Given as goal

abbrev pub decreases-cut : goal.decreases-cut
decreases-cut l = 4 * nodes (tree l.store.now l.id) + 1

abbrev pub decreases-inside : goal.decreases-inside
decreases-inside l = 4 * nodes (tree l.store.now l.id)

abbrev pub decreases-conjunction : goal.decreases-conjunction
decreases-conjunction l = 4 * all_nodes (members (map (tree l.store.now) l.ids.now)) + 3

abbrev pub decreases-marked : goal.decreases-marked
decreases-marked l = 4 * all_nodes (members (map (tree l.store.now) l.ids.now)) + 2

abbrev pub decreases-each_inside : goal.decreases-each_inside
decreases-each_inside l = 4 * all_nodes (members (map (tree l.store.now) l.ids.now)) + 1

abbrev pub decreases-disjunction : goal.decreases-disjunction
decreases-disjunction l = 4 * all_nodes (members (map (tree l.store.now) l.ids.now)) + 3

abbrev pub decreases-each_cut : goal.decreases-each_cut
decreases-each_cut l = 4 * all_nodes (members (map (tree l.store.now) l.ids.now)) + 2

abbrev pub invariant-each_inside-loop-id : goal.invariant-each_inside-loop-id
invariant-each_inside-loop-id l = record {
  kept : Keeps (IsId l.fn.store) (tree l.fn.store) (IsId l.store) (tree l.store);
  stays : StaysAt l.fn.self l.self;
  cut : AreIn (IsInsideCutTo (context_of l.fn.self.context) l.fn.self.assumed.items) (map (tree l.fn.store) (take l.id-index l.ids)) l.store l.cut.items;
}

abbrev pub invariant-each_cut-loop-id : goal.invariant-each_cut-loop-id
invariant-each_cut-loop-id l = record {
  kept : Keeps (IsId l.fn.store) (tree l.fn.store) (IsId l.store) (tree l.store);
  stays : StaysAt l.fn.self l.self;
  cut : AreIn (IsCutTo (context_of l.fn.self.context) l.fn.self.assumed.items) (map (tree l.fn.store) (take l.id-index l.ids)) l.store l.cut.items;
}
