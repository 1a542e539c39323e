use Rattle.std.proofs.Common.{◌≡◌, length}
use Rattle.written_syntax.specs.CodeTrees.{whole_formula}
use Rattle.language_meaning.specs.Grammar.{quantified_names}
use Rattle.redlog_reader.proofs.machine.quantified.Given as goal

abbrev pub invariant-names : goal.invariant-names
invariant-names l = quantified_names l.quantifier l.fn.names.items (whole_formula l.fn.formula) ≡ quantified_names l.quantifier l.names.items (whole_formula l.whole)

abbrev pub decreases-names : goal.decreases-names
decreases-names l = length l.names.items
