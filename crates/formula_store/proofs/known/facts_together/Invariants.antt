use Rattle.std.proofs.Common.{◌≤◌, length, map, drop}
use Rattle.formula_store.specs.Nodes.{tree}
use Rattle.formula_tree.specs.Trees.{members}
use Rattle.formula_store.specs.Facts.{most_nodes}
use Rattle.formula_store.specs.Together.{Join}
use Rattle.formula_store.proofs.known.facts_together.Given as goal

abbrev pub invariant-loop-id : goal.invariant-loop-id
invariant-loop-id g l =
    let nodes = g.K.Known.nodes l.formulas in
    Join l.facts (members (map (tree nodes) (drop l.id-index l.ids))) (members (map (tree nodes) l.ids)) × (l.facts.height ≤ length nodes) × (l.facts.nodes ≤ most_nodes)
