use Rattle.std.proofs.Common.{◌≡◌, ◌++◌, map, take, drop}
use Rattle.std.specs.List.{AllByRecursion}
use Rattle.normal_atoms.specs.Atoms.{atom_of, IsWellFormed}
use Rattle.formula_store.specs.Nodes.{tree, IsId}
use Rattle.program_meaning.specs.Assumptions.{atoms_among}
use Rattle.session_state.specs.Trees.{standing_trees}
use Rattle.form_commands.proofs.assumptions.assumed_atoms.Given as goal

-- the atoms among the standing assumptions and the formulas so far
abbrev pub invariant-loop-id : goal.invariant-loop-id
invariant-loop-id l = record {
  atoms : map atom_of l.atoms.items ≡ atoms_among (standing_trees l.state.standing ++ map (tree l.state.store) (take l.id-index l.ids));
  well_formed : AllByRecursion IsWellFormed l.atoms.items;
  made : AllByRecursion (IsId l.state.store) (drop l.id-index l.ids);
}
