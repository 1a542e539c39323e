pub mod Blocks
pub mod Checked
pub mod Constraints
pub mod Directions
pub mod Members
pub mod OneMore
pub mod Witnesses
