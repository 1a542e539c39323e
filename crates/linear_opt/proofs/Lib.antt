pub mod Orders
pub mod Members
pub mod Told
pub mod Listed
