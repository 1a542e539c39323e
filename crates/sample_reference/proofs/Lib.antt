mod Examples
pub mod Tracing
pub mod SamePoints
pub mod Leasts
pub mod Critical
pub mod Sides
pub mod CriticalSets
pub mod FieldsValue
pub mod IntegersValue
pub mod OneValue
pub mod Chain
pub mod Sound
pub mod Closed
mod SentenceTheoryExamples
pub mod Constants
pub mod Witnesses
