use Rattle.std.proofs.Common.{map, take}
use Rattle.logic_meaning.specs.Formula.{And}
use Rattle.formula_tree.specs.Trees.{members}
use Rattle.formula_store.specs.Nodes.{tree}
use Rattle.branch_pruning.specs.Compared.{atoms_of, SaysAll}
use Rattle.branch_pruning.proofs.conjunction.are_atoms.Given as goal

abbrev pub invariant-loop-id : goal.invariant-loop-id
invariant-loop-id l = SaysAll (And (members (map (tree l.store) (take l.id-index l.ids)))) (atoms_of (tree l.store) (take l.id-index l.ids))
