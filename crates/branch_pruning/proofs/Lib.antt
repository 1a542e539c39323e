pub mod CutTrees
pub mod Simplifying
pub mod Conjunctions
pub mod Walking
pub mod Staying
pub mod AtomLists
pub mod Covered
pub mod FromTheorySimplifier
