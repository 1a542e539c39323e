pub mod Rational
pub mod Entries
pub mod Sum
pub mod Term
pub mod Atom
pub mod Read
pub mod FromResolvedFormulas
