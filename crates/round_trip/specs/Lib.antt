pub mod Written
pub mod Printed
pub mod Levels
pub mod Round
pub mod ReadBack
