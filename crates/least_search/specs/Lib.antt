pub mod Found
pub mod Problems
