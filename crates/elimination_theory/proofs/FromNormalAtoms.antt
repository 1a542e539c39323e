-- What the crates above name of `normal_atoms`.
pub use Rattle.normal_atoms.proofs.NormalLaws.{normal_atomic}
pub use Rattle.normal_atoms.proofs.NormalLaws.{normal_names}
pub use Rattle.normal_atoms.proofs.NormalLaws.{normal_within}
