mod Chains
pub mod Leading
mod FewerNames
mod Closing
mod Conditions
mod Beginning
mod Equated
mod Members
mod Remembered
pub mod Lacking
pub mod Under
pub mod InnerBlocksChains
mod OneMore
mod Trees
mod ShortCases
mod WorkingFacts
mod DirectForms
mod DirectTrees
pub mod Stops
mod Together
pub mod Searching
pub mod Pointing
pub mod Branching
pub mod Answering
pub mod Sampled
pub mod Lowest
mod Told
mod EngineAnswersSampled
pub mod Whole
mod SentenceAnswersTold
mod SentenceAnswersSampled
mod Stopped
