use Rattle.normal_atoms.proofs.Stepped.{ok_map}
use Rattle.formula_store.specs.Nodes.{tree}
use Rattle.formula_store.proofs.Makes.{keeps_then}
use Rattle.engine_answers.proofs.task.Task.by_branches.Goals as goal

pub cases_of-requires-clause-begun : goal.cases_of-requires-clause-begun
cases_of-requires-clause-begun g c κs within = (tree c.args.store.now c.args.id, c.in-Ok.ensures.begun)

pub returns-in-Ok-clause-cases : goal.returns-in-Ok-clause-cases
returns-in-Ok-clause-cases g c = ok_map c.cases_of.result (λ t h. h (tree c.args.store.now c.args.id) c.in-Ok.ensures.begun) c.cases_of.ensures.cases

pub returns-in-Ok-clause-direct : goal.returns-in-Ok-clause-direct
returns-in-Ok-clause-direct g c x fs s e d = c.cases_of.ensures.direct (tree c.args.store.now c.args.id) x fs s c.in-Ok.ensures.begun c.in-Ok.ensures.unpaid e d

pub returns-in-Ok-clause-kept : goal.returns-in-Ok-clause-kept
returns-in-Ok-clause-kept g c = keeps_then c.args.store.now c.begun.new.store c.cases_of.new.store c.begun.ensures.kept c.cases_of.ensures.kept
