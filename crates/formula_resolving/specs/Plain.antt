-- The formulas of a maker that keeps a tree of its own for each.
use Rattle.std.specs.Prelude.{◌<◌, List, get_or, length, map}
use Rattle.logic_meaning.specs.Formula.{Yes}
use Rattle.logic_meaning.specs.Tree.{Tree}
use Rattle.formula_tree.specs.Trees.{tree_of}
use Rattle.formula_resolving.specs.declared.plain.PlainId.{PlainId}
use Rattle.formula_resolving.specs.declared.plain.PlainMaker.{PlainMaker}

-- the trees of its formulas, in the order in which they were made
abbrev pub plain_trees : PlainMaker → List Tree
plain_trees m = map (λ e. tree_of e.tree) m.entries.items

-- the id names a formula
abbrev pub IsPlain : PlainMaker → PlainId → Type 0
IsPlain m id = id.number < length (plain_trees m)

-- the tree of the formula that it names
abbrev pub plain_tree : PlainMaker → PlainId → Tree
plain_tree m id = get_or (plain_trees m) id.number Yes
