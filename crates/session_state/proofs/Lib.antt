pub mod NameLemmas
pub mod VariableLemmas
pub mod SoundLemmas
pub mod BindingLemmas
pub mod KnownLemmas
pub mod BesideLemmas
pub mod StateLemmas
mod Growing
mod Examples
pub mod FromPrenexForms
