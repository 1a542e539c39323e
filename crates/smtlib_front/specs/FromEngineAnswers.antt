-- What the crates above name of `engine_answers`.
pub use Rattle.engine_answers.specs.declared.limits.Limits.{Limits}
