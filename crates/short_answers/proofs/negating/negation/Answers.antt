use Rattle.formula_store.proofs.Makes.{keeps_then}
use Rattle.short_answers.proofs.negating.negation.Goals as goal

pub returns-in_ok-not-in_default-clause-kept : goal.returns-in_ok-not-in_default-clause-kept
returns-in_ok-not-in_default-clause-kept c = keeps_then c.args.store.now c.made-in_default.new.store c.normal.new.store c.made-in_default.ensures.kept c.normal.ensures.kept
