pub mod Commands
pub mod Resolvable
pub mod Resolved
