use Rattle.std.proofs.Common.{◌+◌, ◌≤◌}
use Rattle.formula_store.specs.Nodes.{tree, IsId}
use Rattle.redlog_printer.specs.Texts.{IsOpened}
use Rattle.redlog_printer.proofs.text.put_quantifiers.Given as goal

abbrev pub invariant-quantifiers : goal.invariant-quantifiers
invariant-quantifiers l = record {
  made : IsId l.store l.id;
  opened : IsOpened l.names l.initial.out (tree l.store l.initial.id) l.out (tree l.store l.id) l.count;
  few : l.count + l.id.number ≤ l.initial.id.number;
}

abbrev pub decreases-quantifiers : goal.decreases-quantifiers
decreases-quantifiers l = l.id.number
