pub mod Listed
pub mod Partners
pub mod Known
pub mod Parts
pub mod VariableParts
pub mod Places
pub mod Unchanged
