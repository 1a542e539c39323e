pub mod Refutes
pub mod Sums
mod Examples
pub mod Signs
pub mod Ends
pub mod NewRow
pub mod Lists
pub mod Fits
pub mod StepExact
pub mod Derived
pub mod Over
pub mod Found
pub mod Sound
mod FourierMotzkinExamples
pub mod Weak
pub mod WeakTargets
pub mod Told
pub mod Roots
pub mod LeastTheoryFound
pub mod Targets
mod LeastTheoryExamples
