-- The grid of axes as they are written.
use Rattle.std.proofs.Common.{◌≡◌, inl, inr, ℕ, ◌≤◌, List, subst, refl, arith}
use Rattle.language_meaning.specs.declared.grid.GridAxis.{GridAxis}
use Rattle.program_meaning.specs.declared.axis.Axis.{Axis}
use Rattle.program_meaning.specs.Scales.{size}
use Rattle.program_meaning.specs.Frames.{Frame, most_points}
use Rattle.program_meaning.specs.GridPoints.{grid_of, GridPasses, GridFits, HasTooMany}
use Rattle.point_grid.proofs.Fitting.{fits_or_passes}
use Rattle.program_meaning.specs.declared.line.StatementError.TheVariants as error
use Rattle.program_meaning.specs.Grids.{AreAxes, PassesGrid, HasTooManyPoints}
use Rattle.point_queries.specs.GridSteps.{IsMeantGrid, NoGrid}
use Rattle.point_queries.proofs.AxisLemmas.{axes_determined, none_past}

module _ (number : List ℕ → ℕ) (written : List GridAxis) (axes : List Axis) (are : AreAxes number written axes) where
  -- where the numbers of the grid are within the limit, none passes it
  fits_within : GridFits axes → ¬ (PassesGrid number written)
  fits_within fits (inl p) = none_past number written axes are p
  fits_within fits (inr p) = fits_or_passes axes fits (subst GridPasses (axes_determined number written p.0 axes p.1 are) p.2)

  not_many : size (grid_of axes).scales ≤ most_points → ¬ (HasTooManyPoints number written)
  not_many few h =
      let m = subst HasTooMany (axes_determined number written h.0 axes h.1 are) h.2 in
      let l = m.many in
      omega (arith, few, l)

  pub meant_grid : (grid : Frame) → grid ≡ grid_of axes → GridFits axes → size grid.scales ≤ most_points → IsMeantGrid number written grid
  meant_grid grid same fits few = record {
    axes = axes;
    meant = are;
    same = same;
    within = fits_within fits;
    few = not_many (subst (λ (g : Frame). size g.scales ≤ most_points) same few);
  }

  pub too_many : HasTooMany axes → NoGrid number written error.Nodes
  too_many many = inr (inl (refl, fits_within many.fits, (axes, are, many)))
