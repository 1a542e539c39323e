pub mod Examples
mod ProperTokens
mod ProperTrees
mod ProperExpressions
pub mod Spelled
pub mod Names
pub mod Accepted
pub mod Trees
pub mod Points
pub mod Made
pub mod Meant
pub mod Resolvable
