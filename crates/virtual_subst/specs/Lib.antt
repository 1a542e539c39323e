pub mod Shared
pub mod Folding
pub mod Phases
pub mod Guarded
