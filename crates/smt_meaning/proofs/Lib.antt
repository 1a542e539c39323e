mod Examples
pub mod Levels
pub mod MeaningNames
pub mod Captures
