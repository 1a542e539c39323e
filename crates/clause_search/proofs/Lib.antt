pub mod RowsHold
pub mod NodeLaws
pub mod Refuted
pub mod Solving
pub mod Begun
