use Rattle.std.proofs.Common.{◌≡◌, ◌≤◌, drop, length}
use Rattle.formula_tree.specs.Makers.{Keeps}
use Rattle.formula_store.specs.Nodes.{IsId, tree}
use Rattle.logic_meaning.specs.Front.{block}
use Rattle.prenex_forms.specs.Places.{level_names}
use Rattle.prenex_forms.proofs.prefix.with_block.Given as goal

-- the quantifiers of the last places stand in front
abbrev pub invariant-loop-left : goal.invariant-loop-left
invariant-loop-left l = record {
  within : l.left ≤ length l.places;
  is : IsId l.store l.id;
  same : tree l.store l.id ≡ block l.quantifier (level_names l.level (drop l.left l.places)) (tree l.initial.store l.fn.id);
  kept : Keeps (IsId l.initial.store) (tree l.initial.store) (IsId l.store) (tree l.store);
}

abbrev pub decreases-loop-left : goal.decreases-loop-left
decreases-loop-left l = l.left
