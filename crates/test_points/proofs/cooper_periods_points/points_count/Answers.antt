use Rattle.std.proofs.Common.{◌≡◌, ℕ, ◌≤◌, ◌^◌, ◌∙◌, subst, to_z, of_z}
use Rattle.std.specs.Int.{w128}
use Rattle.std.specs.Option.{MatchOption}
use Rattle.exact_numbers.proofs.Casts.{read_back}
use Rattle.test_points.proofs.Steps.{span_is_positive, scale_is_positive}
use Rattle.test_points.proofs.Counts.{points_counted}
use Rattle.test_points.proofs.cooper_periods_points.points_count.Goals as goal

pub returns : goal.returns
returns c =
    let p = c.requires.period in let n = c.args.period.now in
    subst (λ (k : ℕ). MatchOption c.total.result (2 ^ 64 ≤ k) (λ m. m ≡ k))
    (points_counted c.args.side c.args.x.number c.args.atoms.now (to_z w128 (of_z w128 n.span)) (to_z w128 (of_z w128 n.scale)) c.ends_count.result (read_back n.span p.span_within ∙ p.span) (read_back n.scale p.scale_within ∙ p.scale) c.ends_count.ensures)
    c.total.ensures

pub total-requires-clause-span : goal.total-requires-clause-span
total-requires-clause-span c =
    let p = c.requires.period in
    span_is_positive c.args.x.number c.args.atoms.now _ c.requires.well_formed (read_back c.args.period.now.span p.span_within ∙ p.span)

pub total-requires-clause-scale : goal.total-requires-clause-scale
total-requires-clause-scale c =
    let p = c.requires.period in
    scale_is_positive c.args.x.number c.args.atoms.now _ (read_back c.args.period.now.scale p.scale_within ∙ p.scale)
