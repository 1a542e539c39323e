pub mod Turned
pub mod Clauses
pub mod Marks
