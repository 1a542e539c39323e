use Rattle.std.proofs.Common.{◌≡◌, map, take}
use Rattle.logic_meaning.specs.Sizes.{greatest_height}
use Rattle.formula_tree.specs.Trees.{members}
use Rattle.formula_resolving.specs.Plain.{plain_tree}
use Rattle.formula_resolving.proofs.plain.PlainMaker.greatest.Given as goal

abbrev pub invariant-loop-id : goal.invariant-loop-id
invariant-loop-id l = l.greatest ≡ greatest_height (members (map (plain_tree l.self) (take l.id-index l.ids)))
