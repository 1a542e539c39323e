pub mod LevelsBelow
pub mod Proper
pub mod Atoms
pub mod Laws
