pub mod Places
pub mod Decided
pub mod Said
pub mod Keeping
