use Rattle.formula_store.proofs.Makes.{keeps_then}
use Rattle.short_answers.proofs.asking.Asker.never.Goals as goal

pub returns-clause-kept : goal.returns-clause-kept
returns-clause-kept g c = keeps_then c.args.store.now c.is_nowhere.new.store c.make.new.self c.is_nowhere.ensures.kept c.make.ensures.kept
