pub mod Trees
pub mod Shapes
pub mod Makers
pub mod FromLinearForms
pub mod FromNormalAtoms
