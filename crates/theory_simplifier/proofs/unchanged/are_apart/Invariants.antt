use Rattle.std.proofs.Common.{map, take, nat_eq}
use Rattle.std.specs.HashMap.{get}
use Rattle.std.specs.HashSet.{contains}
use Rattle.normal_atoms.specs.Atoms.{context_of}
use Rattle.formula_store.specs.Nodes.{tree}
use Rattle.theory_simplifier.specs.Unchanged.{AreSeen}
use Rattle.theory_simplifier.proofs.unchanged.are_apart.Given as goal

-- the formulas so far are seen
abbrev pub invariant-loop-id : goal.invariant-loop-id
invariant-loop-id l = AreSeen (context_of l.context) l.junction l.store (map (tree l.store) (take l.id-index l.ids)) (get nat_eq l.firsts) (contains nat_eq l.seconds)
