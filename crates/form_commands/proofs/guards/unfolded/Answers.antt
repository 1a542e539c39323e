use Rattle.std.proofs.Common.{sym, subst}
use Rattle.logic_meaning.specs.Every.{Every}
use Rattle.logic_meaning.specs.Numbers.{IsAtomInLimit}
use Rattle.formula_store.proofs.Numbers.{numbers_are_within}
use Rattle.form_commands.proofs.guards.unfolded.Goals as goal

pub returns-in-Ok-clause-numbers : goal.returns-in-Ok-clause-numbers
returns-in-Ok-clause-numbers c = subst (Every IsAtomInLimit) (sym c.in-Ok.ensures.tree) (numbers_are_within c.args.store.now c.args.id c.requires)
