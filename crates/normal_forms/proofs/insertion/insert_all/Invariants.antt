use Rattle.std.proofs.Common.{Some, take}
use Rattle.normal_atoms.specs.Atoms.{context_of}
use Rattle.formula_tree.specs.Makers.{Keeps}
use Rattle.formula_store.specs.Nodes.{IsId, tree}
use Rattle.shape_theory.specs.AtomKit.{atom_kit}
use Rattle.shape_theory.specs.Lines.{insert_all}
use Rattle.normal_forms.specs.Atoms.{atoms, IsLineIf}
use Rattle.normal_forms.proofs.insertion.insert_all.Given as goal

abbrev pub invariant-loop-atom : goal.invariant-loop-atom
invariant-loop-atom l = record {
  kept : Keeps (IsId l.initial.store) (tree l.initial.store) (IsId l.store) (tree l.store);
  so_far : IsLineIf (context_of l.context) l.store (insert_all (atom_kit (context_of l.context)) l.inner (Some (atoms l.initial.store l.initial.longer)) (atoms l.initial.store (take l.atom-index l.others))) (Some l.longer);
}
