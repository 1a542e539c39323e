use Rattle.std.proofs.Common.{sym}
use Rattle.written_syntax.specs.CodeTrees.{formula_tree}
use Rattle.written_syntax.proofs.Constrained.{no_weak}
use Rattle.redlog_reader.proofs.argument.is_weak.Goals as goal

pub returns-in_default : goal.returns-in_default
unfolding formula_tree
returns-in_default c = sym (no_weak _ c.in_default.not-Compare)
