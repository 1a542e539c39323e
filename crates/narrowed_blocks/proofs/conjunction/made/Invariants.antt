use Rattle.std.proofs.Common.{◌≡◌, ◌++◌, map}
use Rattle.std.specs.List.{AllByRecursion}
use Rattle.logic_meaning.specs.Formula.{One}
use Rattle.normal_atoms.specs.declared.atoms.Atom.{Atom}
use Rattle.normal_atoms.specs.Atoms.{atom_of, IsWellFormed}
use Rattle.formula_tree.specs.Makers.{AreMade, Keeps}
use Rattle.formula_store.specs.Nodes.{tree, IsId}
use Rattle.narrowed_blocks.proofs.conjunction.made.Given as goal

-- the formulas of the atoms so far, and those that are still to come
abbrev pub invariant-loop-atom : goal.invariant-loop-atom
invariant-loop-atom l = record {
  can : (goal.iterator-loop-atom).can_next l.atom-iterator;
  finite : (goal.iterator-loop-atom).is_finite l.atom-iterator;
  made : AreMade (IsId l.store) (tree l.store) l.ids.items (map (λ (a : Atom). One (atom_of a)) l.yielded);
  kept : Keeps (IsId l.fn.store) (tree l.fn.store) (IsId l.store) (tree l.store);
  all : l.yielded ++ l.atom-iterator.rest.items ≡ l.fn.atoms.items;
  well_formed : AllByRecursion IsWellFormed l.atom-iterator.rest.items;
}
