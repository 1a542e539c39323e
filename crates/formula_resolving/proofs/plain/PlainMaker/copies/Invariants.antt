use Rattle.std.proofs.Common.{◌≡◌, map, take}
use Rattle.formula_tree.specs.Trees.{tree_of}
use Rattle.formula_resolving.specs.Plain.{plain_tree}
use Rattle.formula_resolving.proofs.plain.PlainMaker.copies.Given as goal

abbrev pub invariant-loop-id : goal.invariant-loop-id
invariant-loop-id l = map tree_of l.trees.items ≡ map (plain_tree l.self) (take l.id-index l.ids)
