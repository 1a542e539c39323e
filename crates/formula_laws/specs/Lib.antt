pub mod Points
pub mod StandsOnce
pub mod TheoryAtoms
pub mod Equivalence
pub mod Within
pub mod Laws
pub mod Giving
