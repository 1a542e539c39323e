pub mod TreeEquations
pub mod Shapes
pub mod Tells
pub mod AtomsTell
pub mod Decided
pub mod NamePlaces
pub mod FromLinearForms
pub mod FromNormalAtoms
