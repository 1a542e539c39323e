use Rattle.std.proofs.Common.{rules, ◌≡◌, ◌<◌, ◌≤◌, List, Some, map, ap, sym, ◌∙◌, subst, arith, inl, inr, to_z, of_z}
use Rattle.std.proofs.Math.IntN.{ℤ, pos}
use Rattle.std.specs.Int.{w128}
use Rattle.std.specs.Prelude.{◌<ℤ◌, IsErrOf}
use Rattle.std.specs.List.{AllByRecursion}
use Rattle.std.proofs.lemmas.Int.{to_z-of_z}
use Rattle.exact_numbers.specs.Limit.{checked, InLimit}
use Rattle.exact_numbers.proofs.Casts.{fits}
use Rattle.exact_numbers.proofs.Limits.{checked_none}
use Rattle.logic_meaning.specs.Some.{SomeOf}
use Rattle.program_meaning.specs.declared.axis.Axis.{Axis}
use Rattle.program_meaning.specs.declared.scale.Scale.{Scale}
use Rattle.point_grid.specs.declared.error.GridError.TheVariants.{Overflow}
use Rattle.program_meaning.specs.Scales.{size}
use Rattle.program_meaning.specs.GridPoints.{common, scale_of, AxisPasses, AxisFits, GridFits}
use Rattle.point_grid.specs.Steps.{HasSteps}
use Rattle.point_grid.proofs.Multiples.{common_positive, common_steps, within_of}
use Rattle.point_grid.proofs.Counting.{same_of}
use Rattle.point_grid.proofs.grid.Grid.of.Goals as goal

-- the denominator that the code has is the common one
denominator_is : (axes : List Axis) (d : ℤ) → Some d ≡ checked (common axes) → to_z w128 (of_z w128 d) ≡ common axes
denominator_is axes d e = to_z-of_z w128 d (fits d (within_of _ d e)) ∙ same_of _ d e

grid_fits : (axes : List Axis) (d z : ℤ) → Some d ≡ checked (common axes) → z ≡ common axes → AllByRecursion (AxisFits z) axes → GridFits axes
grid_fits axes d z e f h = record {
  common_within = subst (λ (y : ℤ). InLimit y) (same_of _ d e) (within_of _ d e);
  each_fits = subst (λ (y : ℤ). AllByRecursion (AxisFits y) axes) f h;
}

scales_are : (axes : List Axis) (z : ℤ) (ss : List Scale) → z ≡ common axes → ss ≡ map (scale_of z) axes → ss ≡ map (scale_of (common axes)) axes
scales_are axes z ss e f = f ∙ ap (λ (y : ℤ). map (scale_of y) axes) e

pub returns-in_default-clause-overflow : goal.returns-in_default-clause-overflow
returns-in_default-clause-overflow c = λ _. inl (checked_none (common c.args.axes.now) (sym c.in_default.ensures))

pub scales_over-requires-clause-positive : goal.scales_over-requires-clause-positive
scales_over-requires-clause-positive c =
    subst (λ (z : ℤ). pos 0 <ℤ z) (sym (denominator_is c.args.axes.now c.in-Some.denominator c.in-Some.ensures)) (common_positive c.args.axes.now)

pub scales_over-requires-clause-steps : goal.scales_over-requires-clause-steps
scales_over-requires-clause-steps c =
    subst (λ (z : ℤ). AllByRecursion (HasSteps z) c.args.axes.now) (sym (denominator_is c.args.axes.now c.in-Some.denominator c.in-Some.ensures)) (common_steps c.args.axes.now c.requires.rising)

pub returns-in_err-scales-clause-overflow : goal.returns-in_err-scales-clause-overflow
returns-in_err-scales-clause-overflow c =
    let axes = c.args.axes.now in
    let z = to_z w128 (of_z w128 c.in-Some.denominator) in
    let e = denominator_is axes c.in-Some.denominator c.in-Some.ensures in
    let h : IsErrOf c.from_residual.result Overflow → SomeOf (AxisPasses z) axes = search rules in
    λ o. inr (subst (λ (y : ℤ). SomeOf (AxisPasses y) axes) e (h o))

pub returns-then-points-gt-MOST_POINTS-clause-points : goal.returns-then-points-gt-MOST_POINTS-clause-points
returns-then-points-gt-MOST_POINTS-clause-points c =
    let axes = c.args.axes.now in
    let e = denominator_is axes c.in-Some.denominator c.in-Some.ensures in
    let many : 1000000 < size c.deref.result.now = omega arith in
    let same = c.deref.ensures.value ∙ scales_are axes _ c.in_ok-scales.scales.items e c.in_ok-scales.ensures.scales in
    λ _. record { fits = grid_fits axes c.in-Some.denominator _ c.in-Some.ensures e c.in_ok-scales.ensures.fits; many = subst (λ (ss : List Scale). 1000000 < size ss) same many }

pub invariant_of-result : goal.invariant_of-result
invariant_of-result c =
    let few : c.product_of_counts-points.result ≤ 1000000 = omega arith in
    let e : c.product_of_counts-points.result ≡ size c.deref.result.now = omega arith in
    record {
      positive = subst (λ (z : ℤ). pos 0 <ℤ z) (sym (denominator_is c.args.axes.now c.in-Some.denominator c.in-Some.ensures)) (common_positive c.args.axes.now);
      within = c.in_ok-scales.ensures.within;
      counted = e ∙ ap size c.deref.ensures.value;
      few = few;
    }

pub returns-clause-grid : goal.returns-clause-grid
returns-clause-grid c =
    let axes = c.args.axes.now in
    let e = denominator_is axes c.in-Some.denominator c.in-Some.ensures in
    let f = scales_are axes _ c.in_ok-scales.scales.items e c.in_ok-scales.ensures.scales in
    λ i. record { denominator = e i; scales = f i }

pub returns-clause-fits : goal.returns-clause-fits
returns-clause-fits c = grid_fits c.args.axes.now c.in-Some.denominator _ c.in-Some.ensures (denominator_is c.args.axes.now c.in-Some.denominator c.in-Some.ensures) c.in_ok-scales.ensures.fits
