use Rattle.std.proofs.Common.{take}
use Rattle.formula_tree.specs.Makers.{Keeps}
use Rattle.formula_store.specs.Nodes.{IsId, tree}
use Rattle.normal_forms.specs.Atoms.{lines}
use Rattle.normal_forms.proofs.Formed.{AreForms}
use Rattle.normal_forms.proofs.normal.lines_form.Given as goal

abbrev pub invariant-loop-line : goal.invariant-loop-line
invariant-loop-line l = record {
  kept : Keeps (IsId l.initial.store) (tree l.initial.store) (IsId l.store) (tree l.store);
  made : AreForms l.inner l.store (lines l.initial.store (take l.line-index l.line-items)) l.ids.items;
}
