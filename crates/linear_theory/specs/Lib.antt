pub mod Meeting
pub mod Refutes
pub mod RowsHold
pub mod Theorems
pub mod WeakTargets
pub mod Answer
pub mod Laws
