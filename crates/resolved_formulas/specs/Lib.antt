pub mod Fractions
pub mod LowestForms
pub mod ResolvedLaws
pub mod Accepted
