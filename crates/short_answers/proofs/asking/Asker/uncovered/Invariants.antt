use Rattle.std.proofs.Common.{map, take}
use Rattle.normal_atoms.specs.Atoms.{context_of, atom_of}
use Rattle.formula_tree.specs.Makers.{Keeps}
use Rattle.formula_store.specs.Nodes.{tree, IsId}
use Rattle.short_answers.specs.Asking.{AreTidyIds}
use Rattle.short_answers.proofs.Covering.{SoFar}
use Rattle.short_answers.proofs.asking.Asker.uncovered.Given as goal

abbrev pub invariant-loop-id : goal.invariant-loop-id
invariant-loop-id g l = record {
  kept : Keeps (IsId l.fn.store) (tree l.fn.store) (IsId l.store) (tree l.store);
  opposites : AreTidyIds (context_of l.self.work.now.context) l.store l.opposites.items;
  so_far : SoFar (context_of l.self.work.now.context) (map atom_of l.self.work.now.assumed.now) (map (tree l.fn.store) (take l.id-index l.formulas)) l.marks.items (map (tree l.store) l.opposites.items);
}
