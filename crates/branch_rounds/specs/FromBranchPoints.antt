-- What the crates above name of `branch_points`.
pub use Rattle.branch_points.specs.Chosen.{conjuncts}
pub use Rattle.branch_points.specs.Chosen.{shape_atoms}
