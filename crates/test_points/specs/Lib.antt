pub mod Points
pub mod Verdicts
pub mod Substituted
pub mod Laws
pub mod Periods
pub mod Starts
pub mod CooperPeriodsLaws
pub mod FromEliminationTheory
