pub mod Pruned
pub mod Cuts
pub mod Compared
pub mod FromAtomPruning
