use Rattle.normal_atoms.specs.Atoms.{context_of}
use Rattle.logic_meaning.specs.Cases.{case_sign}
use Rattle.logic_meaning.specs.Reference.{leading_branches, normal_tree}
use Rattle.formula_tree.specs.Trees.{tree_of}
use Rattle.sample_reference.specs.TrueSample.{closed_sample, IsTrueSample}
use Rattle.sample_reference.specs.Seen.{sample_of}
use Rattle.logic_meaning.specs.Values.{origin}
use Rattle.sample_reference.proofs.Closed.{closed_sample_true}
use Rattle.plain_samples.specs.Steps.{steps_seen}
use Rattle.plain_samples.proofs.Telling.{told_made, told_gives, told_sample}
use Rattle.plain_samples.proofs.samples.sample_plain.Goals as goal

pub returns-clause-made : goal.returns-clause-made
returns-clause-made c =
    let o = context_of c.args.context in
    let f = tree_of c.args.tree.now in
    let r = c.sampled.result in
    let cost = c.first_true_steps.new.cost in
    told_made sample_of r cost (closed_sample o c.args.limit f)
    (told_sample o (leading_branches o c.args.limit (case_sign (normal_tree f)) f 0) (steps_seen c.in_ok-steps.steps) r cost c.in_ok-steps.ensures.told (c.sampled.ensures cost))

pub returns-clause-truth : goal.returns-clause-truth
returns-clause-truth c =
    let o = context_of c.args.context in
    let f = tree_of c.args.tree.now in
    let r = c.sampled.result in
    let cost = c.first_true_steps.new.cost in
    told_gives sample_of (λ v. IsTrueSample o f origin v) r cost (closed_sample o c.args.limit f) (closed_sample_true o c.args.limit f c.requires.normal c.requires.closed)
    (told_sample o (leading_branches o c.args.limit (case_sign (normal_tree f)) f 0) (steps_seen c.in_ok-steps.steps) r cost c.in_ok-steps.ensures.told (c.sampled.ensures cost))
