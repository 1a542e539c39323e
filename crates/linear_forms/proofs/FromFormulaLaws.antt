-- What the crates above name of `formula_laws`.
pub use Rattle.formula_laws.proofs.Coefficients.{coefficient_scale}
pub use Rattle.formula_laws.proofs.Gathered.{coefficient_gathered}
pub use Rattle.formula_laws.proofs.Gathered.{gathered_sorted}
pub use Rattle.formula_laws.proofs.Gathered.{sorted_stays}
pub use Rattle.formula_laws.proofs.Gathered.{value_gathered}
pub use Rattle.formula_laws.proofs.Relations.{relates_neg}
pub use Rattle.formula_laws.proofs.Relations.{relates_zero_mul}
pub use Rattle.formula_laws.proofs.Same.{and_left}
pub use Rattle.formula_laws.proofs.Same.{and_right}
pub use Rattle.formula_laws.proofs.Same.{both_true}
pub use Rattle.formula_laws.proofs.Same.{form_alike}
pub use Rattle.formula_laws.proofs.Same.{terms_same}
pub use Rattle.formula_laws.proofs.Sorted.{scale_sorted}
pub use Rattle.formula_laws.proofs.Values.{value_scale}
