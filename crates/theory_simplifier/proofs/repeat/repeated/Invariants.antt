use Rattle.std.proofs.Common.{◌≡◌, ◌<◌}
use Rattle.logic_meaning.specs.Sizes.{nodes}
use Rattle.normal_atoms.specs.Atoms.{context_of}
use Rattle.shape_theory.specs.AtomKit.{atom_kit}
use Rattle.shape_theory.specs.Pass.{simplified}
use Rattle.shape_theory.specs.Simplifiable.{IsSimplifiable}
use Rattle.formula_tree.specs.Makers.{Keeps}
use Rattle.formula_store.specs.Facts.{most_nodes}
use Rattle.formula_store.specs.Nodes.{tree, IsId}
use Rattle.theory_simplifier.specs.Known.{known_atoms}
use Rattle.theory_simplifier.proofs.repeat.repeated.Given as goal

abbrev pub invariant-loop-next : goal.invariant-loop-next
invariant-loop-next l = record {
  is : IsId l.store l.formula;
  normal : IsSimplifiable (context_of l.context) (tree l.store l.formula);
  known : l.known ≡ l.initial.known;
  kept : Keeps (IsId l.initial.store) (tree l.initial.store) (IsId l.store) (tree l.store);
  counted : l.nodes ≡ nodes (tree l.store l.formula);
  small : l.nodes < most_nodes;
  same : simplified (atom_kit (context_of l.context)) (tree l.initial.store l.fn.id) (known_atoms l.initial.known) ≡ simplified (atom_kit (context_of l.context)) (tree l.store l.formula) (known_atoms l.initial.known);
}

abbrev pub decreases-loop-next : goal.decreases-loop-next
decreases-loop-next l = l.nodes
