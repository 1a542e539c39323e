pub mod ScaleWithin
pub mod FramePoints
pub mod Steps
pub mod Truths
pub mod Laws
