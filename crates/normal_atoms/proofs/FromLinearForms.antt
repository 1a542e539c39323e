-- What the crates above name of `linear_forms`.
pub use Rattle.linear_forms.proofs.Lookups.{on_ok}
pub use Rattle.linear_forms.proofs.Quotients.{multiple_quotients}
pub use Rattle.linear_forms.proofs.Quotients.{sorted_quotient}
pub use Rattle.linear_forms.proofs.Reduced.{residue_sorted}
pub use Rattle.linear_forms.proofs.Residues.{multiple_residues}
pub use Rattle.linear_forms.proofs.Residues.{residue_apart}
pub use Rattle.linear_forms.proofs.Steps.{value_steps_given}
