use Rattle.std.proofs.Common.{◌≡◌, ◌+◌, ℤ, List, pos, drop, sym, ap, ◌∙◌, subst, to_z}
use Rattle.std.specs.Int.{w128}
use Rattle.std.specs.Prelude.{◌<ℤ◌}
use Rattle.std.proofs.lemmas.Int.{to_z-of_z}
use Rattle.exact_numbers.specs.Limit.{checked, InLimit}
use Rattle.exact_numbers.proofs.Casts.{fits}
use Rattle.exact_numbers.proofs.Limits.{checked_in}
use Rattle.program_meaning.specs.declared.axis.Axis.{Axis}
use Rattle.program_meaning.specs.GridPoints.{multiple_of, common}
use Rattle.std.proofs.lemmas.List.{drop_all}
use Rattle.point_grid.proofs.Lists.{drop_at}
use Rattle.point_grid.proofs.Multiples.{next_multiple, next_positive, next_none, none_left, within_of}
use Rattle.point_grid.proofs.parts.common_denominator.Goals as goal

pub returns-in_err-multiple : goal.returns-in_err-multiple
returns-in_err-multiple c =
    let axes = c.args.axes.now in
    let i = c.loop-axis.axis-index in
    let a = c.axis-item.result in
    let m = to_z w128 c.loop-axis.multiple-bits in
    let split = drop_at axes i a c.loop-axis-test.true c.axis-item.is in
    let inv = subst (λ (xs : List Axis). multiple_of m xs ≡ common axes) split c.loop-axis.invariant.left in
    c.from_residual.ensures ∙ next_none m a (drop (i + 1) axes) (common axes) c.loop-axis.invariant.positive inv c.in_err-multiple.ensures

pub loop-axis-preserved : goal.loop-axis-preserved
loop-axis-preserved c =
    let axes = c.args.axes.now in
    let i = c.loop-axis.axis-index in
    let a = c.axis-item.result in
    let m = to_z w128 c.loop-axis.multiple-bits in
    let w = c.in_ok-multiple.multiple in
    let split = drop_at axes i a c.loop-axis-test.true c.axis-item.is in
    let inv = subst (λ (xs : List Axis). multiple_of m xs ≡ common axes) split c.loop-axis.invariant.left in
    let e = sym (to_z-of_z w128 w (fits w (within_of _ w c.in_ok-multiple.ensures))) in
    record {
      left = subst (λ (z : ℤ). multiple_of z (drop (i + 1) axes) ≡ common axes) e (next_multiple m w a (drop (i + 1) axes) (common axes) inv c.in_ok-multiple.ensures);
      positive = subst (λ (z : ℤ). pos 0 <ℤ z) e (next_positive m w a c.loop-axis.invariant.positive c.in_ok-multiple.ensures);
      within = subst (λ (z : ℤ). InLimit z) e (within_of _ w c.in_ok-multiple.ensures);
    }

pub returns : goal.returns
returns c =
    let axes = c.args.axes.now in
    let m = to_z w128 c.loop-axis.multiple-bits in
    let inv = subst (λ (xs : List Axis). multiple_of m xs ≡ common axes) (drop_all c.loop-axis.axis-index axes c.loop-axis-test.false) c.loop-axis.invariant.left in
    sym (checked_in m c.loop-axis.invariant.within) ∙ ap checked (none_left m (common axes) inv)
