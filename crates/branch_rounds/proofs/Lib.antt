pub mod Thinned
mod Never
pub mod Standing
pub mod Going
pub mod Names
pub mod Grown
pub mod Left
pub mod Childs
pub mod EachRound
pub mod Places
pub mod Reached
pub mod Onward
pub mod PutOn
pub mod Ended
pub mod Alone
pub mod FromBranchPoints
pub mod FromTheorySimplifier
