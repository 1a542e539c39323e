use Rattle.std.proofs.Common.{map, take}
use Rattle.normal_atoms.specs.Atoms.{context_of}
use Rattle.formula_store.specs.Nodes.{tree}
use Rattle.atom_pruning.specs.Rows.{AreRows}
use Rattle.branch_pruning.specs.Cuts.{said}
use Rattle.branch_pruning.proofs.rows.rows_of_each.Given as goal

abbrev pub invariant-loop-id : goal.invariant-loop-id
invariant-loop-id l = AreRows (context_of l.context) (map said (map (tree l.store) (take l.id-index l.ids))) l.each.items
