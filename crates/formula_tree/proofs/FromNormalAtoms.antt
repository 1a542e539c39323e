-- What the crates above name of `normal_atoms`.
pub use Rattle.normal_atoms.proofs.Meaning.{numbers_within}
