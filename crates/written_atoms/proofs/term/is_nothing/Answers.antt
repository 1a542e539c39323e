use Rattle.std.proofs.Common.{ap, ◌∙◌}
use Rattle.language_meaning.specs.Trees.{Number}
use Rattle.written_atoms.proofs.TermSizes.{number_literal}
use Rattle.written_atoms.proofs.term.is_nothing.Goals as goal

pub returns-in-Number : goal.returns-in-Number
returns-in-Number c = λ yes. number_literal c.args.term.now c.in-Number.literal c.in-Number.is ∙ ap Number (c.is_zero.ensures yes)
