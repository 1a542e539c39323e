use Rattle.std.proofs.Common.{◌≡◌, ◌≤◌, ◌-◌}
use Rattle.formula_tree.specs.Makers.{Keeps}
use Rattle.formula_store.specs.Nodes.{IsId, tree}
use Rattle.logic_meaning.specs.Front.{prefixed}
use Rattle.prenex_forms.specs.Places.{kind_at, levels_of}
use Rattle.prenex_forms.proofs.prefix.with_prefix.Given as goal

-- the last blocks stand in front
abbrev pub invariant-loop-level : goal.invariant-loop-level
invariant-loop-level l = record {
  within : l.level ≤ l.blocks;
  is : IsId l.store l.id;
  same : tree l.store l.id ≡ prefixed (kind_at l.kind l.level) (levels_of l.level (l.blocks - l.level) l.places) (tree l.initial.store l.fn.id);
  kept : Keeps (IsId l.initial.store) (tree l.initial.store) (IsId l.store) (tree l.store);
}

abbrev pub decreases-loop-level : goal.decreases-loop-level
decreases-loop-level l = l.level
