pub mod Keeping
pub mod Growth
pub mod Scripted
pub mod Trees
pub mod Numbered
pub mod FormulaGiven
pub mod FromRedlogPrinter
