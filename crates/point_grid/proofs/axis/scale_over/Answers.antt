use Rattle.std.proofs.Common.{◌≡◌, Some, None, ap, ◌∙◌, arith, ℕ, ◌<◌}
use Rattle.std.proofs.Math.IntN.{ℤ, pos, ◌+ℤ◌, ◌-ℤ◌}
use Rattle.std.specs.Prelude.{unsigned_abs, ◌<ℤ◌, FitsSigned}
use Rattle.std.specs.Int.{w128}
use Rattle.std.proofs.lemmas.Int.{ints, to_z-of_z}
use Rattle.exact_numbers.specs.Limit.{checked, InLimit}
use Rattle.exact_numbers.proofs.Casts.{fits}
use Rattle.program_meaning.specs.Counts.{count_of}
use Rattle.program_meaning.specs.GridPoints.{over}
use Rattle.point_grid.proofs.Multiples.{within_of}
use Rattle.point_grid.proofs.Counting.{refused, low_passes, high_passes, step_passes, span_passes, same_of, step_positive, scale_made, Made}
use Rattle.point_grid.proofs.axis.scale_over.Goals as goal

pub returns-in_err-low : goal.returns-in_err-low
returns-in_err-low c =
    let fm = c.ranges.denominator in
    let a : None ≡ checked (over c.args.denominator c.args.axis.now.low) = simp to_z-of_z at c.in_err-low.ensures in
    refused c.from_residual.result _ _ c.from_residual.ensures (low_passes c.args.denominator c.args.axis.now a)

pub returns-in_err-high : goal.returns-in_err-high
returns-in_err-high c =
    let fm = c.ranges.denominator in
    let a : None ≡ checked (over c.args.denominator c.args.axis.now.high) = simp to_z-of_z at c.in_err-high.ensures in
    refused c.from_residual-in_err-high.result _ _ c.from_residual-in_err-high.ensures (high_passes c.args.denominator c.args.axis.now a)

pub returns-in_err-over : goal.returns-in_err-over
returns-in_err-over c =
    let fm = c.ranges.denominator in
    let a : None ≡ checked (over c.args.denominator c.args.axis.now.step) = simp to_z-of_z at c.in_err-over.ensures in
    refused c.from_residual-in_err-over.result _ _ c.from_residual-in_err-over.ensures (step_passes c.args.denominator c.args.axis.now a)

negated_fits : (z : ℤ) → InLimit z → FitsSigned w128 (pos 0 -ℤ z)
negated_fits z h = fits (pos 0 -ℤ z) (omega (arith, ints))

pub overflow_sub-low : goal.overflow_sub-low
overflow_sub-low c =
    let fm = c.ranges.denominator in
    let low = c.in_ok-low.low in
    let a : Some low ≡ checked (over c.args.denominator c.args.axis.now.low) = simp to_z-of_z at c.in_ok-low.ensures in
    let il = within_of _ low a in
    let fl = fits low il in
    simp to_z-of_z (negated_fits low il)

pub returns-in_err-span : goal.returns-in_err-span
returns-in_err-span c =
    let fm = c.ranges.denominator in
    let low = c.in_ok-low.low in
    let high = c.in_ok-high.high in
    let a : Some low ≡ checked (over c.args.denominator c.args.axis.now.low) = simp to_z-of_z at c.in_ok-low.ensures in
    let b : Some high ≡ checked (over c.args.denominator c.args.axis.now.high) = simp to_z-of_z at c.in_ok-high.ensures in
    let il = within_of _ low a in
    let fl = fits low il in
    let fn = negated_fits low il in
    let fh = fits high (within_of _ high b) in
    let d : None ≡ checked (high +ℤ (pos 0 -ℤ low)) = simp to_z-of_z at c.in_err-span.ensures.rule in
    refused c.from_residual-in_err-span.result _ _ c.from_residual-in_err-span.ensures (span_passes c.args.denominator c.args.axis.now low high a b d)

unsigned_positive : (z step : ℤ) (t : ℕ) → pos 0 <ℤ z → step ≡ z → t ≡ unsigned_abs step → 0 < t
unsigned_positive z step t h e f = let g = f ∙ ap unsigned_abs e in omega (arith, ints)

pub count-requires-clause-step : goal.count-requires-clause-step
count-requires-clause-step c =
    let fm = c.ranges.denominator in
    let step = c.in_ok-over.field-0 in
    let d : Some step ≡ checked (over c.args.denominator c.args.axis.now.step) = simp to_z-of_z at c.in_ok-over.ensures in
    let fs = fits step (within_of _ step d) in
    let p : c.unsigned_abs-step.result ≡ unsigned_abs step = simp to_z-of_z at c.unsigned_abs-step.ensures.value in
    let h = step_positive c.args.denominator c.args.axis.now c.requires.positive c.requires.rising c.requires.common in
    unsigned_positive (over c.args.denominator c.args.axis.now.step) step c.unsigned_abs-step.result h (same_of _ step d) p

pub returns : goal.returns
returns c =
    let fm = c.ranges.denominator in
    let low = c.in_ok-low.low in
    let high = c.in_ok-high.high in
    let step = c.in_ok-over.field-0 in
    let span = c.in_ok-span.span in
    let a : Some low ≡ checked (over c.args.denominator c.args.axis.now.low) = simp to_z-of_z at c.in_ok-low.ensures in
    let b : Some high ≡ checked (over c.args.denominator c.args.axis.now.high) = simp to_z-of_z at c.in_ok-high.ensures in
    let d : Some step ≡ checked (over c.args.denominator c.args.axis.now.step) = simp to_z-of_z at c.in_ok-over.ensures in
    let il = within_of _ low a in
    let fl = fits low il in
    let fn = negated_fits low il in
    let fh = fits high (within_of _ high b) in
    let fs = fits step (within_of _ step d) in
    let e : Some span ≡ checked (high +ℤ (pos 0 -ℤ low)) = simp to_z-of_z at c.in_ok-span.ensures.rule in
    let fp = fits span (within_of _ span e) in
    let t = c.unsigned_abs-step.result in
    let p : t ≡ unsigned_abs step = simp to_z-of_z at c.unsigned_abs-step.ensures.value in
    let q : c.count.result ≡ count_of span t = simp to_z-of_z at c.count.ensures in
    let h = step_positive c.args.denominator c.args.axis.now c.requires.positive c.requires.rising c.requires.common in
    let m = scale_made c.args.denominator c.args.axis.now low high step span t c.count.result h a b d e p q in
    let r : Made c.args.denominator c.args.axis.now (record { name = c.args.axis.now.name; low = low; step = t; count = c.count.result }) = m in
    simp to_z-of_z (r.same, r.fits, r.within)
