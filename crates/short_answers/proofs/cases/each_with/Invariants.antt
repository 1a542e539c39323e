use Rattle.std.proofs.Common.{map, take}
use Rattle.formula_tree.specs.Makers.{AreMade, Keeps}
use Rattle.formula_store.specs.Nodes.{tree, IsId}
use Rattle.short_answers.specs.Cases.{each_joined}
use Rattle.short_answers.proofs.cases.each_with.Given as goal

abbrev pub invariant-loop-id : goal.invariant-loop-id
invariant-loop-id l = record {
  made : AreMade (IsId l.store) (tree l.store) l.each.items (each_joined (map (tree l.fn.store) (take l.id-index l.ids)) (map (tree l.fn.store) l.others));
  kept : Keeps (IsId l.fn.store) (tree l.fn.store) (IsId l.store) (tree l.store);
}
