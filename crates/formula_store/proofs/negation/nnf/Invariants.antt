use Rattle.std.proofs.Common.{◌≤◌, ◌+◌, ◌*◌, take, length}
use Rattle.std.specs.List.{AllByRecursion}
use Rattle.formula_tree.specs.Makers.{Keeps}
use Rattle.formula_store.specs.Nodes.{IsId, tree, Front}
use Rattle.formula_store.specs.Forms.{Known}
use Rattle.formula_store.proofs.negation.nnf.Given as goal

abbrev pub invariant-loop-id : goal.invariant-loop-id
invariant-loop-id l = record {
  known : AllByRecursion (Known l.store l.table) (take l.id-index l.id-items);
  kept : Keeps (IsId l.initial.store) (tree l.initial.store) (IsId l.store) (tree l.store);
  front : Front l.initial.store l.store;
  few : length l.store ≤ length l.initial.store + 6 * l.id-index;
}
