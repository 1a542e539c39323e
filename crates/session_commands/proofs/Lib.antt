mod RoomLemmas
mod Retries
mod StandingLemmas
pub mod NewNameLemmas
pub mod GivenLemmas
pub mod GivenSteps
pub mod ItemTrees
pub mod AnswerLemmas
pub mod AskedLemmas
pub mod InnerForms
pub mod RunLemmas
pub mod TextVariables
pub mod NumberLemmas
pub mod InnerSteps
pub mod StepLemmas
pub mod InsideLemmas
pub mod ThroughLemmas
pub mod Accepted
pub mod NamesAfter
