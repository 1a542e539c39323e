pub mod NegationForm
pub mod Places
pub mod Named
pub mod Chosen
pub mod Marks
