pub mod CodeTrees
pub mod Grouping
pub mod OpenGroups
pub mod Refuses
