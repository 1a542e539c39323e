pub mod Combinations
pub mod Linear
pub mod Merging
pub mod Values
pub mod Equality
pub mod FromFormulaLaws
