-- What the crates above name of `atom_pruning`.
pub use Rattle.atom_pruning.specs.Kept.{marked}
