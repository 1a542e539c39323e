pub mod Matrices
pub mod Witnesses
pub mod Settled
