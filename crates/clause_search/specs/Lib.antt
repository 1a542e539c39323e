pub mod Variables
pub mod Nodes
pub mod Refuting
pub mod Soundness
pub mod Solvers
pub mod Tables
pub mod Found
pub mod Whole
