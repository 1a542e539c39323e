pub mod Totals
pub mod Parts
pub mod Written
pub mod Listed
