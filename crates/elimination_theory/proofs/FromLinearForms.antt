-- What the crates above name of `linear_forms`.
pub use Rattle.normal_atoms.proofs.FromLinearForms.{value_steps_given}
