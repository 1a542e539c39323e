pub mod Told
pub mod Forms
pub mod Sides
pub mod Pairs
pub mod Solving
