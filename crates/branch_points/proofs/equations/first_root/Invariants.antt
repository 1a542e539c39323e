use Rattle.std.proofs.Common.{map, take}
use Rattle.formula_tree.specs.Trees.{members}
use Rattle.formula_store.specs.Nodes.{tree}
use Rattle.branch_points.specs.Chosen.{HasNoEquation}
use Rattle.branch_points.proofs.equations.first_root.Given as goal

-- none of the formulas so far is an equation in a name that is left
abbrev pub invariant-loop-id : goal.invariant-loop-id
invariant-loop-id l = HasNoEquation (members (map (tree l.store) (take l.id-index l.ids))) l.left
