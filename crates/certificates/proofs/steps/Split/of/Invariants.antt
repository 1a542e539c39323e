use Rattle.std.proofs.Common.{◌≡◌, ◌++◌}
use Rattle.logic_meaning.specs.Rows.{absent, uppers, lowers}
use Rattle.certificates.specs.Rows.{rows_of}
use Rattle.certificates.proofs.steps.Split.of.Given as goal

-- the rows of each kind so far and those that are left are all
abbrev pub invariant-loop-row : goal.invariant-loop-row
invariant-loop-row l = record {
  can : (goal.iterator-loop-row).can_next l.row-iterator;
  finite : (goal.iterator-loop-row).is_finite l.row-iterator;
  name : l.split.step.name ≡ l.fn.name;
  absents : rows_of l.split.absent.items ++ absent l.fn.name.number (rows_of l.row-iterator.rest.items) ≡ absent l.fn.name.number (rows_of l.fn.rows.items);
  upper : rows_of l.split.step.uppers.items ++ uppers l.fn.name.number (rows_of l.row-iterator.rest.items) ≡ uppers l.fn.name.number (rows_of l.fn.rows.items);
  lower : rows_of l.split.step.lowers.items ++ lowers l.fn.name.number (rows_of l.row-iterator.rest.items) ≡ lowers l.fn.name.number (rows_of l.fn.rows.items);
}
