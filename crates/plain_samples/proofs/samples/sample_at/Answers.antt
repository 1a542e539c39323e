use Rattle.normal_atoms.specs.Atoms.{context_of}
use Rattle.logic_meaning.specs.Sample.{chosen_steps}
use Rattle.formula_tree.specs.Trees.{tree_of}
use Rattle.linear_forms.specs.Values.{point_of}
use Rattle.reference_engine.proofs.Seen.{told_then}
use Rattle.logic_meaning.specs.ReferenceSample.{sampled, reference_sample}
use Rattle.sample_reference.specs.TrueSample.{IsTrueSample}
use Rattle.sample_reference.specs.Seen.{sample_of}
use Rattle.sample_reference.proofs.Sound.{sample_true}
use Rattle.plain_samples.specs.Steps.{steps_seen}
use Rattle.plain_samples.proofs.Telling.{told_gives}
use Rattle.plain_samples.proofs.samples.sample_at.Goals as goal

pub returns-clause-truth : goal.returns-clause-truth
returns-clause-truth c =
    let o = context_of c.args.context in
    let p = point_of c.args.at.now in
    let f = tree_of c.args.tree.now in
    let chosen = c.in_ok-steps.ensures.chosen in
    told_gives sample_of (λ v. IsTrueSample o f p v) c.sampled.result chosen.0 (reference_sample o c.args.limit p f) (sample_true o c.args.limit f p c.requires.normal c.requires.point)
    (told_then sample_of c.sampled.result chosen.0 chosen.0 (chosen_steps o c.args.limit p f) (steps_seen c.in_ok-steps.steps) (λ r. sampled o r.1 r.0) chosen.1 (c.sampled.ensures chosen.0))
