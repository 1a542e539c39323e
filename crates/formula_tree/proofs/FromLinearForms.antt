-- What the crates above name of `linear_forms`.
pub use Rattle.normal_atoms.proofs.FromLinearForms.{on_ok}
