use Rattle.std.proofs.Common.{◌≡◌, map, take, drop}
use Rattle.std.specs.List.{AllByRecursion}
use Rattle.normal_atoms.specs.Atoms.{atom_of, IsWellFormed}
use Rattle.program_meaning.specs.Assumptions.{atoms_among}
use Rattle.session_state.specs.Trees.{standing_trees, IsFormed}
use Rattle.session_state.proofs.standing.Standing.atoms.Given as goal

-- the atoms so far
abbrev pub invariant-loop-assumption : goal.invariant-loop-assumption
invariant-loop-assumption l = record {
  atoms : map atom_of l.atoms.items ≡ atoms_among (standing_trees (take l.assumption-index l.assumption-items));
  well_formed : AllByRecursion IsWellFormed l.atoms.items;
  formed : AllByRecursion IsFormed (drop l.assumption-index l.assumption-items);
}
