use Rattle.std.proofs.Common.{◌≡◌, ◌≤◌, length, map, vec_len}
use Rattle.normal_atoms.specs.Atoms.{context_of, atom_of}
use Rattle.formula_store.specs.Nodes.{tree}
use Rattle.branch_pruning.proofs.Covered.{Cover}
use Rattle.branch_pruning.proofs.covering.uncovered.Given as goal

abbrev pub invariant-loop-i : goal.invariant-loop-i
invariant-loop-i l = record {
  one_each : vec_len l.marks ≡ length l.formulas;
  cover : Cover (context_of l.fn.context) (map atom_of l.assumed) (map (tree l.store) l.formulas) l.marks.items;
  assumed : l.comparer.assumed.items ≡ l.initial.comparer.assumed.items;
  effort : l.comparer.effort ≤ l.fn.effort;
}
