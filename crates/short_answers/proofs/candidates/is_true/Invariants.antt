use Rattle.std.proofs.Common.{◌≤◌, length}
use Rattle.linear_forms.specs.FromFormulaLaws.{AtomIn}
use Rattle.normal_atoms.specs.Atoms.{context_of, atom_of, IsWellFormed}
use Rattle.short_answers.proofs.candidates.is_true.Given as goal

-- what is left is an atom of the theory
abbrev pub invariant-loop-place : goal.invariant-loop-place
invariant-loop-place l = record {
  well_formed : IsWellFormed l.left;
  in_context : AtomIn (context_of l.context) (atom_of l.left);
  within : l.place ≤ length l.points;
}

abbrev pub decreases-loop-place : goal.decreases-loop-place
decreases-loop-place l = l.place
