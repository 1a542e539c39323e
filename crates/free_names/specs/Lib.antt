pub mod Scopes
pub mod Missing
pub mod Places
