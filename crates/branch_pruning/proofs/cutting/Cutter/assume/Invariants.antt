use Rattle.std.proofs.Common.{◌≡◌, ◌≤◌, List, ◌++◌, length, vec_len}
use Rattle.logic_meaning.specs.Context.{Context as Theory}
use Rattle.logic_meaning.specs.Atom.{Atom as Meant}
use Rattle.atom_pruning.specs.declared.rows.AtomRows.{AtomRows}
use Rattle.atom_pruning.specs.Rows.{AreRows}
use Rattle.atom_pruning.specs.Kept.{marked}
use Rattle.branch_pruning.specs.Cuts.{AreToldBy}
use Rattle.branch_pruning.proofs.cutting.Cutter.assume.Given as goal

abbrev pub invariant-loop-row : goal.invariant-loop-row
invariant-loop-row l = record {
  few : vec_len l.rows ≤ length l.marks;
  split : (rest : List AtomRows) × (l.fn.rows.items ≡ l.rows.items ++ rest);
  told : (c : Theory) (ks us : List Meant) → AreRows c ks l.fn.self.assumed.items → AreRows c us l.fn.rows.items → AreToldBy c ks (marked l.marks us) l.self.assumed.items;
  more : (more : List AtomRows) × (l.self.assumed.items ≡ l.fn.self.assumed.items ++ more);
  context : l.self.context ≡ l.fn.self.context;
  effort : l.self.effort ≡ l.fn.self.effort;
}

abbrev pub decreases-loop-row : goal.decreases-loop-row
decreases-loop-row l = vec_len l.rows
