pub mod Numbering
pub mod Lists
pub mod Multiples
pub mod Counting
pub mod Choices
pub mod Pieces
pub mod Once
pub mod Values
pub mod Fitting
mod Examples
