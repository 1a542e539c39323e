pub mod Inherited
pub mod Made
pub mod Taken
pub mod Noted
pub mod Copied
pub mod Started
pub mod SameIds
pub mod Joined
