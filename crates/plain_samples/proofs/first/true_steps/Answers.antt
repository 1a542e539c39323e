use Rattle.std.proofs.Common.{◌≡◌, List, Some, sym, ap, ◌∙◌}
use Rattle.std.specs.Prelude.{Option}
use Rattle.normal_atoms.specs.Atoms.{context_of}
use Rattle.logic_meaning.specs.Answers.{Step}
use Rattle.logic_meaning.specs.Measured.{done}
use Rattle.logic_meaning.specs.Reference.{branches}
use Rattle.logic_meaning.specs.declared.form.VarId.{VarId}
use Rattle.nnf_trees.specs.Nnfs.{nnf_of}
use Rattle.reference_engine.specs.Told.{numbers}
use Rattle.reference_engine.proofs.Standing.{done_of}
use Rattle.plain_samples.specs.First.{first_steps}
use Rattle.plain_samples.specs.Steps.{steps_of}
use Rattle.plain_samples.proofs.Finding.{first_takable, first_taken}
use Rattle.plain_samples.proofs.first.true_steps.Goals as goal

pub steps_back-requires-clause-takable : goal.steps_back-requires-clause-takable
steps_back-requires-clause-takable c =
    let o = context_of c.args.setting.context in
    let limit = c.args.setting.limit in
    let names = numbers c.new.result.items in
    let f = nnf_of c.args.f.now in
    let cost = c.args.cost.now in
    let told = c.in_ok-found.ensures.told in
    let d = done_of c.in_ok-found.found.leaves.items c.rooted_leaves.new.cost (branches o limit names c.args.sign f cost) told.0 in
    first_takable o limit names c.args.sign f cost c.rooted_leaves.new.cost c.requires.ready (nnf_of c.in_ok-found.found.root) d.branches c.in-Some.points.items d.is told.1 (c.in-Some.ensures.choice d.branches d.stand) c.in-Some.ensures.points

pub returns-in_ok-steps-in-Some-clause-told : goal.returns-in_ok-steps-in-Some-clause-told
returns-in_ok-steps-in-Some-clause-told c =
    let o = context_of c.args.setting.context in
    let limit = c.args.setting.limit in
    let names = numbers c.new.result.items in
    let f = nnf_of c.args.f.now in
    let cost = c.args.cost.now in
    let after = c.rooted_leaves.new.cost in
    let told = c.in_ok-found.ensures.told in
    let d = done_of c.in_ok-found.found.leaves.items after (branches o limit names c.args.sign f cost) told.0 in
    let first = c.in-Some.ensures.choice d.branches d.stand in
    let taken : first.branch.steps ≡ steps_of c.in_ok-steps-in-Some.steps.items
    = first_taken o limit names c.args.sign f cost after c.requires.ready (nnf_of c.in_ok-found.found.root) d.branches c.in-Some.points.items d.is told.1 first c.in-Some.ensures.points ∙ sym c.in_ok-steps-in-Some.ensures.steps in
    ap (λ (xs : List VarId). first_steps (branches o limit (numbers xs) c.args.sign f cost)) (sym c.new.ensures.items) ∙ ap first_steps d.is
    ∙ ap (λ (s : Option (List Step)). done (s, after)) (first.first ∙ ap (λ (ss : List Step). Some ss) taken)
