use Rattle.std.proofs.Common.{take, []}
use Rattle.normal_atoms.specs.Atoms.{context_of}
use Rattle.formula_tree.specs.Makers.{Keeps}
use Rattle.formula_store.specs.Nodes.{IsId, tree}
use Rattle.shape_theory.specs.AtomKit.{atom_kit}
use Rattle.shape_theory.specs.Lines.{add_products}
use Rattle.normal_forms.specs.Atoms.{lines, AreLines}
use Rattle.normal_forms.specs.Sieves.{swept}
use Rattle.normal_forms.proofs.lines.products.Given as goal

abbrev pub invariant-loop-line : goal.invariant-loop-line
invariant-loop-line l = record {
  kept : Keeps (IsId l.initial.store) (tree l.initial.store) (IsId l.store) (tree l.store);
  so_far : AreLines (context_of l.context) l.store (add_products (atom_kit (context_of l.context)) l.inner [] (lines l.initial.store (take l.line-index l.line-items)) (lines l.initial.store l.others.items)) (swept l.lines.lines);
}
