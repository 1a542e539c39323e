mod Examples
pub mod Relations
pub mod Ranges
pub mod Comparisons
pub mod Congruences
pub mod NormalLaws
pub mod Sorted
pub mod Stepped
pub mod Told
pub mod Meaning
mod AtomMergingExamples
pub mod Tables
pub mod Mixed
pub mod Thresholds
pub mod Sets
pub mod Unique
pub mod JoinedComparisons
pub mod Places
pub mod MergedAnswers
pub mod ResidueClasses
pub mod JoinedCongruences
pub mod PointLaws
pub mod Computed
pub mod FromLinearForms
