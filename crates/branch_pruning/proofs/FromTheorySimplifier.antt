-- What the crates above name of `theory_simplifier`.
pub use Rattle.theory_simplifier.proofs.Passing.{on_ok}
