pub mod Seen
pub mod TrueSample
pub mod Traced
pub mod Theorems
pub mod Leading
pub mod SentenceTheoryTheorems
