-- The names after each statement, for the crates above.
pub use Rattle.session_commands.proofs.NewNameLemmas.{answer_names_distinct, answer_names_variables}
pub use Rattle.point_queries.proofs.EntryLemmas.{names_of_entries}
pub use Rattle.constraint_queries.proofs.ProblemNames.{front, front_variables, last_is_target}
pub use Rattle.session_commands.proofs.TextVariables.{AreTexts, out_variables, given_variables, texts_written}
