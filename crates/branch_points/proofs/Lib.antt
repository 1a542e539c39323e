pub mod ListedAtoms
pub mod Names
pub mod FirstEquations
pub mod Choices
pub mod RootsAmong
pub mod FewestPoints
pub mod CountedPoints
pub mod CountedEnds
mod Examples
