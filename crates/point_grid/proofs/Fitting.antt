-- A grid whose numbers are within the limit has none that passes it.
use Rattle.std.proofs.Common.{List, [], ◌∷◌, inl, inr, arith}
use Rattle.std.proofs.Math.IntN.{ℤ}
use Rattle.std.specs.List.{AllByRecursion}
use Rattle.exact_numbers.specs.Limit.{InLimit, PastLimit}
use Rattle.logic_meaning.specs.Some.{SomeOf}
use Rattle.program_meaning.specs.declared.axis.Axis.{Axis}
use Rattle.program_meaning.specs.GridPoints.{over, span_of, common, AxisPasses, AxisFits, GridPasses, GridFits}

not_both : (z : ℤ) → InLimit z → PastLimit z → ⊥
not_both z h p = omega arith

one_axis : (m : ℤ) (a : Axis) → AxisFits m a → AxisPasses m a → ⊥
one_axis m a f p =
    elim p.cause [
      | inl c ↦ not_both (over m a.low) f.low_within c
      | inr d ↦ elim d [ inl c ↦ not_both (over m a.high) f.high_within c | inr e ↦ elim e [ inl c ↦ not_both (over m a.step) f.step_within c | inr c ↦ not_both (span_of m a) f.span_within c ] ]
    ]

some_axis : (m : ℤ) (axes : List Axis) → AllByRecursion (AxisFits m) axes → SomeOf (AxisPasses m) axes → ⊥
some_axis m [] f p = p
some_axis m (a ∷ axes) f (inl p) = one_axis m a f.0 p
some_axis m (a ∷ axes) f (inr p) = some_axis m axes f.1 p

pub fits_or_passes : (axes : List Axis) → GridFits axes → ¬ (GridPasses axes)
fits_or_passes axes f (inl p) = not_both (common axes) f.common_within p
fits_or_passes axes f (inr p) = some_axis (common axes) axes f.each_fits p
