use Rattle.formula_store.proofs.Makes.{keeps_then}
use Rattle.form_commands.proofs.guards.left_case.Goals as goal

pub returns-clause-kept : goal.returns-clause-kept
returns-clause-kept c = keeps_then c.args.store.now c.share.new.store c.left_guard.new.store c.share.ensures.kept c.left_guard.ensures.kept
