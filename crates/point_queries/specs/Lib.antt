pub mod CaseLists
pub mod Asked
pub mod Truths
pub mod SampleSteps
pub mod GridSteps
