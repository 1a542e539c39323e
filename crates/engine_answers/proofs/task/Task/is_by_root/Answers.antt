use Rattle.formula_store.specs.Nodes.{tree}
use Rattle.branch_rounds.specs.FromBranchPoints.{conjuncts}
use Rattle.engine_answers.proofs.Equated.{equation_there}
use Rattle.engine_answers.proofs.task.Task.is_by_root.Goals as goal

pub returns-then-len-lt2 : goal.returns-then-len-lt2
returns-then-len-lt2 c left x s e d = c.has_equation.ensures.1 (equation_there x.number (conjuncts (tree c.args.store.now c.args.begun.now.matrix)) d.equation.0 d.equation.1)
