use Rattle.std.proofs.Common.{List, reverse, ap, ◌∙◌}
use Rattle.normal_atoms.specs.Atoms.{context_of}
use Rattle.nnf_trees.specs.Nnfs.{nnf_of}
use Rattle.test_points.specs.declared.points.TestPoint.{TestPoint}
use Rattle.plain_samples.specs.Steps.{steps_of}
use Rattle.plain_samples.specs.Replay.{taken_from}
use Rattle.plain_samples.proofs.Walking.{steps_reversed}
use Rattle.plain_samples.proofs.replay.steps_back.Goals as goal

pub returns-clause-steps : goal.returns-clause-steps
returns-clause-steps c =
    let o = context_of c.args.context in
    ap steps_of c.reverse-2.ensures.items ∙ steps_reversed c.in_ok-steps.steps.items
    ∙ ap reverse (c.in_ok-steps.ensures.steps ∙ ap (λ (ts : List TestPoint). taken_from o (nnf_of c.args.root) ts) c.reverse.ensures.items)
