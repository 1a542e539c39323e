use Rattle.std.proofs.Common.{sym}
use Rattle.written_syntax.specs.CodeTrees.{formula_tree}
use Rattle.written_syntax.proofs.Constrained.{unconstrained}
use Rattle.redlog_reader.proofs.argument.is_constraint.Goals as goal

pub returns-in_default : goal.returns-in_default
unfolding formula_tree
returns-in_default c = sym (unconstrained _ c.in_default.not-Compare)
