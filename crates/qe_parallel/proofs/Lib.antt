pub mod Runs
pub mod Filling
mod Examples
