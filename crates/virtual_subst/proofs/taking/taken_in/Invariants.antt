use Rattle.std.proofs.Common.{◌≤◌, length, map}
use Rattle.std.specs.List.{AllByRecursion}
use Rattle.formula_tree.specs.Makers.{AreMade, Keeps}
use Rattle.formula_store.specs.Changes.{Change, Grows, tree_on}
use Rattle.formula_store.specs.Nodes.{tree, IsId}
use Rattle.virtual_subst.proofs.taking.taken_in.Given as goal

-- what was taken in stands for what it stood for beside the store, which has only grown
abbrev pub invariant-loop-delta : goal.invariant-loop-delta
invariant-loop-delta l = record {
  can : (goal.iterator-loop-delta).can_next l.delta-iterator;
  finite : (goal.iterator-loop-delta).is_finite l.delta-iterator;
  grown : Grows l.initial.store l.store;
  kept : Keeps (IsId l.initial.store) (tree l.initial.store) (IsId l.store) (tree l.store);
  made : AreMade (IsId l.store) (tree l.store) l.ids.items (map (tree_on l.initial.store) l.yielded);
  begun : AllByRecursion (λ (d : Change). d.begun ≤ length l.initial.store) l.delta-iterator.rest.items;
}
