pub mod Narrowing
pub mod Conjunctions
pub mod Settings
