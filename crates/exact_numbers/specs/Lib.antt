pub mod Limit
pub mod Divides
pub mod Division
pub mod Frac
pub mod ExactSteps
pub mod Fraction
