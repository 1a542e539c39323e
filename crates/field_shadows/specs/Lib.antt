pub mod Signed
pub mod Holds
pub mod Bounds
pub mod Equations
pub mod Normalised
pub mod Rest
