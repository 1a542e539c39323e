pub mod Asking
pub mod Branches
pub mod Candidates
pub mod Opposites
pub mod Cases
pub mod Shorter
