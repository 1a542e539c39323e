pub mod Fanned
pub mod Orders
