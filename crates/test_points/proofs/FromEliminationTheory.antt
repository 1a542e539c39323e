-- What the crates above name of `elimination_theory`.
pub use Rattle.elimination_theory.proofs.Simple.{IsSimple}
pub use Rattle.elimination_theory.proofs.Simple.{guard_simple}
pub use Rattle.elimination_theory.proofs.Simple.{simple_normalised}
pub use Rattle.elimination_theory.proofs.Tidy.{normaliser}
pub use Rattle.elimination_theory.proofs.WithinTests.{place_tests}
