pub mod Frames
pub mod Values
pub mod Readings
pub mod KnownAt
pub mod Reading
pub mod Outcomes
pub mod AssertionWords
