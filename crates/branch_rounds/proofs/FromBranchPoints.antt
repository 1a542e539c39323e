-- What the crates above name of `branch_points`.
pub use Rattle.branch_points.proofs.FirstEquations.{conjunct_is}
pub use Rattle.branch_points.proofs.ListedAtoms.{atoms_at}
pub use Rattle.branch_points.proofs.ListedAtoms.{atoms_from}
pub use Rattle.branch_points.proofs.ListedAtoms.{order_same}
