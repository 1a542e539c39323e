use Rattle.formula_store.proofs.Makes.{keeps_then}
use Rattle.form_commands.proofs.conditions.opposite.Goals as goal

pub returns-clause-kept : goal.returns-clause-kept
returns-clause-kept c = keeps_then c.args.store.now c.make.new.self c.negated.new.store c.make.ensures.kept c.negated.ensures.kept
