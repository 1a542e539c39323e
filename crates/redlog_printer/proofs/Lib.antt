pub mod Bounds
pub mod Written
pub mod TextLemmas
pub mod Separating
