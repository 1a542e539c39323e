use Rattle.std.proofs.lemmas.Result.{err_from_is_err_and}
use Rattle.session_state.specs.Scripted.{answered_tree}
use Rattle.point_queries.proofs.AskedSteps.{normal_there}
use Rattle.session_state.proofs.StateLemmas.{keeps_then}
use Rattle.point_queries.proofs.SampleSteps.{sample_told, sample_stopped}
use Rattle.point_queries.proofs.samples.sample.Goals as goal

pub returns-in_err-id-clause-refused : goal.returns-in_err-id-clause-refused
returns-in_err-id-clause-refused g c =
    let p = err_from_is_err_and c.from_residual.result c.from_residual.ensures.1 in
    rw (p.1, p.2) (λ printed. (c.in_err-id.ensures.refused c.args.workshop.now.limits.nodes printed).1)

pub resolved_sample-requires-clause-normal : goal.resolved_sample-requires-clause-normal
resolved_sample-requires-clause-normal g c _ _ = normal_there c.args.state.now c.asked.new.state (answered_tree c.args.formula.now) c.args.entries.now c.requires.session c.requires.numbered c.in_ok-id.ensures.kept c.in_ok-id.id c.in_ok-id.point c.in_ok-id.ensures.asked

pub returns-clause-sample : goal.returns-clause-sample
returns-clause-sample g c = sample_told c.args.state.now c.asked.new.state (answered_tree c.args.formula.now) c.args.entries.now c.requires.session c.requires.numbered c.in_ok-id.ensures.kept c.in_ok-id.id c.in_ok-id.point c.in_ok-id.ensures.asked c.resolved_sample.result c.args.workshop.now.limits.nodes c.requires.answers.scripted c.resolved_sample.ensures.sample

pub returns-clause-refused : goal.returns-clause-refused
returns-clause-refused g c = sample_stopped c.args.state.now c.asked.new.state (answered_tree c.args.formula.now) c.args.entries.now c.requires.session c.requires.numbered c.in_ok-id.ensures.kept c.in_ok-id.id c.in_ok-id.point c.in_ok-id.ensures.asked c.resolved_sample.result c.args.workshop.now.limits.nodes c.resolved_sample.ensures.fault

pub returns-clause-kept : goal.returns-clause-kept
returns-clause-kept g c = keeps_then c.args.state.now c.asked.new.state c.resolved_sample.new.state c.in_ok-id.ensures.kept c.resolved_sample.ensures.kept
