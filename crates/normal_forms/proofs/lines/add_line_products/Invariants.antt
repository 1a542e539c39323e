use Rattle.std.proofs.Common.{take}
use Rattle.normal_atoms.specs.Atoms.{context_of}
use Rattle.formula_tree.specs.Makers.{Keeps}
use Rattle.formula_store.specs.Nodes.{IsId, tree}
use Rattle.shape_theory.specs.AtomKit.{atom_kit}
use Rattle.shape_theory.specs.Lines.{add_line_products}
use Rattle.normal_forms.specs.Atoms.{atoms, lines, AreLines}
use Rattle.normal_forms.specs.Sieves.{swept}
use Rattle.normal_forms.proofs.lines.add_line_products.Given as goal

abbrev pub invariant-loop-other : goal.invariant-loop-other
invariant-loop-other l = record {
  kept : Keeps (IsId l.initial.store) (tree l.initial.store) (IsId l.store) (tree l.store);
  so_far : AreLines (context_of l.context) l.store (add_line_products (atom_kit (context_of l.context)) l.inner (lines l.initial.store (swept l.initial.lines.lines)) (atoms l.initial.store l.line) (lines l.initial.store (take l.other-index l.other-items))) (swept l.lines.lines);
}
