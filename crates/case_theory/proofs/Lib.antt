pub mod Moved
pub mod Lists
pub mod Block
pub mod SameAtoms
pub mod Points
pub mod Under
pub mod Without
pub mod Fit
pub mod Worked
pub mod Children
pub mod Pending
pub mod Inside
pub mod Leading
pub mod Ends
pub mod FitAt
pub mod Steady
pub mod Fallback
pub mod Simplified
pub mod Direct
pub mod ClassSample
mod Examples
mod Run
mod SampleTheoryExamples
pub mod OneValue
pub mod CriticalSet
pub mod Moving
pub mod Found
pub mod Sampleable
pub mod Reordered
pub mod Known
pub mod Cases
