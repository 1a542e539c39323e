pub mod Told
pub mod Paid
pub mod Ready
pub mod Put
pub mod Stand
pub mod Case
pub mod Shared
