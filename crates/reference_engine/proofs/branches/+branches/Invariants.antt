use Rattle.std.proofs.Common.{◌≡◌, ◌≤◌, ◌+◌, ◌*◌, drop}
use Rattle.logic_meaning.specs.Sizes.{nodes, all_nodes}
use Rattle.normal_atoms.specs.Atoms.{context_of}
use Rattle.logic_meaning.specs.Reference.{members}
use Rattle.nnf_trees.specs.Nnfs.{nnf_of, nnfs_of, AreProper}
use Rattle.reference_engine.specs.Ready.{AreReady}
use Rattle.reference_engine.specs.Told.{formulas_of, prefixed}
use Rattle.reference_engine.proofs.branches.+branches.Given as goal

abbrev pub decreases-branches : goal.decreases-branches
decreases-branches l = 4 * nodes (nnf_of l.f.now)

abbrev pub decreases-quantified : goal.decreases-quantified
decreases-quantified l = 4 * nodes (nnf_of l.f.now) + 3

abbrev pub decreases-chained : goal.decreases-chained
decreases-chained l = 4 * nodes (nnf_of l.f.now) + 1

abbrev pub decreases-closed : goal.decreases-closed
decreases-closed l = 4 * nodes (nnf_of l.f.now) + 2

abbrev pub decreases-all_together : goal.decreases-all_together
decreases-all_together l = 4 * all_nodes (nnfs_of l.fs.now) + 1

-- what is made and the members left are all members
abbrev pub invariant-all_together-loop-f : goal.invariant-all_together-loop-f
invariant-all_together-loop-f l = record {
  told : prefixed (formulas_of l.made.items) (members (context_of l.setting.context) l.setting.limit l.sign (formulas_of (drop l.f-index l.f-items)) l.cost)
      ≡ members (context_of l.setting.context) l.setting.limit l.sign (nnfs_of l.fs) l.fn.cost;
  small : all_nodes (formulas_of (drop l.f-index l.f-items)) ≤ all_nodes (nnfs_of l.fs);
  made : AreProper l.made.items;
  rest : AreProper (drop l.f-index l.f-items);
  ready : AreReady (context_of l.setting.context) (formulas_of (drop l.f-index l.f-items));
}
