pub mod NnfEquations
pub mod Pieces
pub mod Counting
pub mod FormLaws
pub mod AtomsOnce
pub mod PutLaws
pub mod ResultLaws
