pub mod Memory
pub mod Stops
