-- What the crates above name of `elimination_theory`.
pub use Rattle.elimination_theory.specs.StepTheorems.{trees_left}
