pub mod Worked
pub mod Children
pub mod Branches
pub mod Rounds
pub mod Turns
pub mod Thinned
pub mod Cases
pub mod FromBranchPoints
