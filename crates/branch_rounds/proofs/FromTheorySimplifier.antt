-- What the crates above name of `theory_simplifier`.
pub use Rattle.branch_pruning.proofs.FromTheorySimplifier.{on_ok}
