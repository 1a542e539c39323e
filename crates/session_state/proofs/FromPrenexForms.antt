-- What the crates above name of `prenex_forms`.
pub use Rattle.prenex_forms.proofs.Finished.{bound_normal_form}
pub use Rattle.prenex_forms.proofs.Finished.{finished}
pub use Rattle.prenex_forms.proofs.Finished.{length_more}
pub use Rattle.prenex_forms.proofs.FoundNames.{any_among}
