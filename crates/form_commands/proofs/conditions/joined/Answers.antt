use Rattle.formula_store.proofs.Makes.{keeps_then}
use Rattle.form_commands.proofs.conditions.joined.Goals as goal

pub returns-then-case_tree-clause-kept : goal.returns-then-case_tree-clause-kept
returns-then-case_tree-clause-kept c = keeps_then c.args.store.now c.guards_together.new.store c.opposite.new.store c.guards_together.ensures.kept c.opposite.ensures.kept
