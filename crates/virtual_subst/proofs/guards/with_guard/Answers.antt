use Rattle.formula_store.proofs.Makes.{keeps_then}
use Rattle.virtual_subst.proofs.guards.with_guard.Goals as goal

pub returns-in_ok-condition-in-Integers-clause-kept : goal.returns-in_ok-condition-in-Integers-clause-kept
returns-in_ok-condition-in-Integers-clause-kept c = keeps_then c.args.store.now c.normal_made.new.formulas c.fold.new.formulas c.in_ok-condition-in-Integers.ensures.kept c.fold.ensures.kept
