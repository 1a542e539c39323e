use Rattle.std.proofs.Common.{◌≡◌, map, take}
use Rattle.std.specs.List.{AllByRecursion}
use Rattle.formula_tree.specs.Makers.{Keeps}
use Rattle.formula_store.specs.Nodes.{tree, IsId}
use Rattle.theory_simplifier.specs.Listed.{entry_atom}
use Rattle.theory_simplifier.specs.Parts.{one_tree}
use Rattle.theory_simplifier.proofs.closing.atoms_made.Given as goal

abbrev pub invariant-loop-entry : goal.invariant-loop-entry
invariant-loop-entry l = record {
  are : AllByRecursion (IsId l.store) l.ids.items;
  made : map (tree l.store) l.ids.items ≡ map one_tree (map entry_atom (take l.entry-index l.entry-items));
  kept : Keeps (IsId l.initial.store) (tree l.initial.store) (IsId l.store) (tree l.store);
}
