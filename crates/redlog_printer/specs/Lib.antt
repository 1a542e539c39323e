pub mod ArgumentText
pub mod Bound
pub mod Texts
pub mod Within
