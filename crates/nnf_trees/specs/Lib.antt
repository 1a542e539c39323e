pub mod Nnfs
pub mod Forms
pub mod Placed
