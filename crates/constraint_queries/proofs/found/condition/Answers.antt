use Rattle.std.proofs.Common.{refl}
use Rattle.formula_store.specs.Nodes.{tree}
use Rattle.formula_store.proofs.Makes.{keeps_then}
use Rattle.constraint_queries.proofs.Conditions.{condition_made}
use Rattle.constraint_queries.proofs.found.condition.Goals as goal

pub returns-in-Ok-guards_together-clause-condition : goal.returns-in-Ok-guards_together-clause-condition
returns-in-Ok-guards_together-clause-condition g c =
    condition_made c.args.state.now.context c.engine-engine.result.context c.engine-engine.ensures.context c.requires.theory (tree c.args.state.now.store c.args.problem) c.requires.weak
    c.cases.new.store c.in-Ok.cases c.in-Ok.ensures.cases _ c.in-Ok-guards_together.condition c.in-Ok-guards_together.ensures.made

pub returns-in-Ok-guards_together-clause-kept : goal.returns-in-Ok-guards_together-clause-kept
returns-in-Ok-guards_together-clause-kept g c = record {
  context = refl;
  names = refl;
  bindings = refl;
  standing = refl;
  answers = refl;
  store = keeps_then c.args.state.now.store c.cases.new.store c.guards_together.new.store c.cases.ensures.kept c.guards_together.ensures.kept;
}
