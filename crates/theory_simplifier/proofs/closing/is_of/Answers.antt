use Rattle.std.proofs.Common.{sym, ap, ◌∙◌}
use Rattle.logic_meaning.specs.Formula.{One}
use Rattle.normal_atoms.specs.Atoms.{atom_of}
use Rattle.formula_tree.specs.Shapes.{tree_over}
use Rattle.formula_tree.proofs.Decided.{same_atom}
use Rattle.formula_store.specs.Nodes.{tree}
use Rattle.theory_simplifier.proofs.closing.is_of.Goals as goal

pub returns-in-One : goal.returns-in-One
returns-in-One c holds = c.shape.ensures.tree ∙ ap (tree_over (tree c.args.store.now)) c.in-One.is ∙ ap (λ a. One (atom_of a)) (same_atom c.in-One.other c.args.atom.now (sym c.eq.ensures ∙ holds))
