-- The names after each statement, for the crates above.
pub use Rattle.session_commands.proofs.NamesAfter.{answer_names_distinct, answer_names_variables, names_of_entries, front, front_variables, last_is_target, AreTexts, out_variables, given_variables, texts_written}
