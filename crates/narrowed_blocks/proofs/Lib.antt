pub mod Names
pub mod Listed
pub mod Narrower
pub mod Wholes
pub mod Members
pub mod Lasts
pub mod Becoming
mod Turned
