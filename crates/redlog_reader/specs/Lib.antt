pub mod QuantifierWord
pub mod Machine
pub mod Reader
pub mod View
pub mod Reading
