use Rattle.std.proofs.Common.{map, take}
use Rattle.logic_meaning.specs.Formula.{One}
use Rattle.normal_atoms.specs.declared.atoms.Atom.{Atom}
use Rattle.normal_atoms.specs.Atoms.{atom_of}
use Rattle.formula_tree.specs.Makers.{AreMade, Keeps}
use Rattle.formula_store.specs.Nodes.{tree, IsId}
use Rattle.short_answers.proofs.atoms.formulas_of.Given as goal

-- the formulas of the atoms so far
abbrev pub invariant-loop-atom : goal.invariant-loop-atom
invariant-loop-atom l = record {
  made : AreMade (IsId l.store) (tree l.store) l.ids.items (map (λ (a : Atom). One (atom_of a)) (take l.atom-index l.atoms));
  kept : Keeps (IsId l.fn.store) (tree l.fn.store) (IsId l.store) (tree l.store);
}
