pub mod Search
pub mod Scopes
pub mod Lists
pub mod Nodes
pub mod Parts
pub mod Named
