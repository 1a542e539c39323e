mod ResolvedExamples
pub mod RuleLaw
pub mod FormSteps
pub mod FormValues
pub mod PlaceLaws
pub mod Nowhere
pub mod AtomTruth
pub mod ResolvedTruth
pub mod WholeForms
pub mod FormNames
pub mod ResolvedNames
pub mod MissingForms
pub mod LowestForms
pub mod ResolvedHeight
pub mod AnswerNames
