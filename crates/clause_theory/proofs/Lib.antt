pub mod Marked
pub mod UnitSteps
