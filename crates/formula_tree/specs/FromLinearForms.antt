-- What the crates above name of `linear_forms`.
pub use Rattle.normal_atoms.specs.FromLinearForms.{Numbers}
pub use Rattle.normal_atoms.specs.FromLinearForms.{number_at}
pub use Rattle.normal_atoms.specs.FromLinearForms.{point_of}
