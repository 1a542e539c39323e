-- What the crates above name of `resolved_formulas`.
pub use Rattle.resolved_formulas.specs.Accepted.{IsAccepted}
