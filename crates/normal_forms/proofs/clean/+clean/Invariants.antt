use Rattle.std.proofs.Common.{◌+◌, ◌*◌, map, take}
use Rattle.normal_atoms.specs.Atoms.{context_of}
use Rattle.formula_tree.specs.Trees.{members}
use Rattle.formula_tree.specs.Makers.{Keeps}
use Rattle.formula_store.specs.Nodes.{IsId, tree}
use Rattle.shape_theory.specs.AtomKit.{atom_kit}
use Rattle.logic_meaning.specs.PlainForms.{of_none}
use Rattle.shape_theory.specs.Lines.{more_clean_lines}
use Rattle.normal_forms.specs.Atoms.{AreLines}
use Rattle.normal_forms.specs.Sieves.{swept}
use Rattle.normal_forms.proofs.clean.+clean.Given as goal

abbrev pub decreases-formula_lines : goal.decreases-formula_lines
decreases-formula_lines l = 2 * l.id.number + 1

abbrev pub decreases-member_lines : goal.decreases-member_lines
decreases-member_lines l = 2 * l.above.number

abbrev pub invariant-member_lines-loop-id : goal.invariant-member_lines-loop-id
invariant-member_lines-loop-id l = record {
  kept : Keeps (IsId l.initial.store) (tree l.initial.store) (IsId l.store) (tree l.store);
  so_far : AreLines (context_of l.context) l.store (more_clean_lines (atom_kit (context_of l.context)) l.inner l.each_with_each (of_none l.each_with_each) (members (map (tree l.initial.store) (take l.id-index l.ids)))) (swept l.lines.lines);
}
