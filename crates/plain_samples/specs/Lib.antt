pub mod Steps
pub mod Replay
pub mod Rooted
pub mod First
pub mod Told
pub mod Roots
