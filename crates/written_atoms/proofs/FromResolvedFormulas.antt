-- What the crates above name of `resolved_formulas`.
pub use Rattle.resolved_formulas.proofs.AnswerNames.{answer_at}
pub use Rattle.resolved_formulas.proofs.AnswerNames.{beside_answers}
pub use Rattle.resolved_formulas.proofs.AnswerNames.{no_answer}
