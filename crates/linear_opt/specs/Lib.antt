pub mod Values
pub mod Truths
pub mod Least
