pub mod Fronts
pub mod Longest
pub mod Begun
pub mod WordPairs
pub mod TreeLists
pub mod CodeTrees
