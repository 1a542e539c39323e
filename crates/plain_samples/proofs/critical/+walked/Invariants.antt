use Rattle.std.proofs.Common.{◌≡◌, ◌≤◌, ◌+◌, ◌*◌, drop, option_map}
use Rattle.exact_numbers.specs.Fraction.{frac_of}
use Rattle.logic_meaning.specs.Sizes.{nodes, all_nodes}
use Rattle.logic_meaning.specs.Atoms.{atoms_in_all}
use Rattle.nnf_trees.specs.Nnfs.{nnf_of, nnfs_of}
use Rattle.nnf_trees.proofs.Pieces.{Formulas_of}
use Rattle.plain_samples.specs.Roots.{least_among}
use Rattle.plain_samples.proofs.critical.+walked.Given as goal

abbrev pub decreases-least_in : goal.decreases-least_in
decreases-least_in l = 2 * nodes (nnf_of l.f.now)

abbrev pub decreases-least_in_members : goal.decreases-least_in_members
decreases-least_in_members l = 2 * all_nodes (nnfs_of l.fs.now) + 1

-- the least with the atoms of the members left is that with all atoms
abbrev pub invariant-least_in_members-loop-f : goal.invariant-least_in_members-loop-f
invariant-least_in_members-loop-f l = record {
  left : least_among l.side l.x.number (option_map frac_of l.bound) (option_map frac_of l.least) (atoms_in_all (Formulas_of (drop l.f-index l.f-items)))
      ≡ least_among l.side l.x.number (option_map frac_of l.bound) (option_map frac_of l.fn.before) (atoms_in_all (nnfs_of l.fs));
  small : all_nodes (Formulas_of (drop l.f-index l.f-items)) ≤ all_nodes (nnfs_of l.fs);
}
