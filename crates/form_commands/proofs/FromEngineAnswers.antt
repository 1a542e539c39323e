-- What the crates above name of `engine_answers`.
pub use Rattle.engine_answers.proofs.Whole.{whole_where_asked}
