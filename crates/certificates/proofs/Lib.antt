pub mod Running
pub mod Left
pub mod Pairs
pub mod Deciding
pub mod Combined
pub mod Contents
pub mod NewRow
pub mod FirstRows
pub mod Splits
pub mod Descents
pub mod Indexed
pub mod Ascents
pub mod Points
pub mod TwoPasses
mod Examples
