use Rattle.std.proofs.Common.{◌≡◌, map, length}
use Rattle.written_syntax.specs.CodeTrees.{whole_formula}
use Rattle.redlog_reader.specs.Reader.{items_read, kind_read}
use Rattle.redlog_reader.proofs.Items.{onto}
use Rattle.redlog_reader.proofs.argument.listed.Given as goal

abbrev pub invariant-atoms : goal.invariant-atoms
invariant-atoms l = items_read (kind_read l.kind) l.fn.tokens ≡ onto (map whole_formula l.atoms.items) (items_read (kind_read l.kind) l.start)

abbrev pub decreases-atoms : goal.decreases-atoms
decreases-atoms l = length l.start
