pub mod Asked
pub mod Rows
pub mod Kept
pub mod Keeping
