use Rattle.std.proofs.Common.{sym, ◌∙◌}
use Rattle.std.proofs.lemmas.Bool.{false≢true}
use Rattle.std.proofs.lemmas.Result.{err_from_is_err_and}
use Rattle.session_state.specs.Scripted.{answered_tree}
use Rattle.form_commands.proofs.PlainFormulas.{answers_stay}
use Rattle.point_queries.proofs.AskedSteps.{ids_there, normal_there}
use Rattle.session_state.proofs.StateLemmas.{keeps_then}
use Rattle.point_queries.proofs.TruthSteps.{free_there, whole_there, truth_told, truth_stops, eliminated_told, eliminated_stops}
use Rattle.point_queries.proofs.holds.truth.Goals as goal

pub returns-in_err-id-clause-refused : goal.returns-in_err-id-clause-refused
returns-in_err-id-clause-refused g c =
    let p = err_from_is_err_and c.from_residual.result c.from_residual.ensures.1 in
    rw (p.1, p.2) (λ printed. (c.in_err-id.ensures.refused c.args.workshop.now.limits.nodes printed).0)

pub holds_quantifier-requires-clause-answers : goal.holds_quantifier-requires-clause-answers
holds_quantifier-requires-clause-answers g c = answers_stay c.args.state.now c.asked.new.state c.in_ok-id.ensures.kept c.args.formula.now c.requires.answers

pub holds_quantifier-requires-clause-ids : goal.holds_quantifier-requires-clause-ids
holds_quantifier-requires-clause-ids g c = ids_there c.args.state.now c.asked.new.state (answered_tree c.args.formula.now) c.args.entries.now c.requires.session c.requires.numbered c.in_ok-id.ensures.kept

pub eliminated_truth-requires-clause-normal : goal.eliminated_truth-requires-clause-normal
eliminated_truth-requires-clause-normal g c _ _ = normal_there c.args.state.now c.asked.new.state (answered_tree c.args.formula.now) c.args.entries.now c.requires.session c.requires.numbered c.in_ok-id.ensures.kept c.in_ok-id.id c.in_ok-id.point c.in_ok-id.ensures.asked

pub returns-then-holds_quantifier-clause-truth : goal.returns-then-holds_quantifier-clause-truth
returns-then-holds_quantifier-clause-truth g c = eliminated_told c.args.state.now c.asked.new.state (answered_tree c.args.formula.now) c.args.entries.now c.requires.session c.requires.numbered c.in_ok-id.ensures.kept c.in_ok-id.id c.in_ok-id.point c.in_ok-id.ensures.asked c.eliminated_truth.result c.eliminated_truth.ensures.truth

pub returns-then-holds_quantifier-clause-refused : goal.returns-then-holds_quantifier-clause-refused
returns-then-holds_quantifier-clause-refused g c =
    eliminated_stops c.args.state.now c.asked.new.state (answered_tree c.args.formula.now) c.args.entries.now c.requires.session c.requires.numbered c.in_ok-id.ensures.kept c.in_ok-id.id c.in_ok-id.point c.in_ok-id.ensures.asked
    c.eliminated_truth.result c.args.workshop.now.limits.nodes (sym c.if-holds_quantifier.ensures) c.eliminated_truth.ensures.fault

pub returns-then-holds_quantifier-clause-kept : goal.returns-then-holds_quantifier-clause-kept
returns-then-holds_quantifier-clause-kept g c = keeps_then c.args.state.now c.asked.new.state c.eliminated_truth.new.state c.in_ok-id.ensures.kept c.eliminated_truth.ensures.kept

pub truth_at-requires-clause-free : goal.truth_at-requires-clause-free
truth_at-requires-clause-free g c = free_there c.args.state.now c.asked.new.state (answered_tree c.args.formula.now) c.args.entries.now c.requires.session c.requires.numbered c.in_ok-id.ensures.kept c.in_ok-id.id c.in_ok-id.point c.in_ok-id.ensures.asked (λ h. false≢true (c.if-holds_quantifier.ensures ∙ h))

pub truth_at-requires-clause-whole : goal.truth_at-requires-clause-whole
truth_at-requires-clause-whole g c = whole_there c.args.state.now c.asked.new.state (answered_tree c.args.formula.now) c.args.entries.now c.requires.session c.requires.numbered c.in_ok-id.ensures.kept c.in_ok-id.id c.in_ok-id.point c.in_ok-id.ensures.asked

pub returns-clause-truth : goal.returns-clause-truth
returns-clause-truth g c = truth_told c.args.state.now c.asked.new.state (answered_tree c.args.formula.now) c.args.entries.now c.requires.session c.requires.numbered c.in_ok-id.ensures.kept c.in_ok-id.id c.in_ok-id.point c.in_ok-id.ensures.asked c.truth_at.result c.truth_at.ensures.truth

pub returns-clause-refused : goal.returns-clause-refused
returns-clause-refused g c =
    truth_stops c.args.state.now c.asked.new.state (answered_tree c.args.formula.now) c.args.entries.now c.requires.session c.requires.numbered c.in_ok-id.ensures.kept c.in_ok-id.id c.in_ok-id.point c.in_ok-id.ensures.asked
    c.truth_at.result c.args.workshop.now.limits.nodes (λ h. false≢true (c.if-holds_quantifier.ensures ∙ h)) c.truth_at.ensures.fault
