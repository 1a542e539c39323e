pub mod Atoms
pub mod Merging
pub mod Sizes
pub mod Parts
pub mod Shapes
pub mod Paths
pub mod Sieves
