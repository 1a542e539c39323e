-- What the crates above name of `linear_forms`.
pub use Rattle.linear_forms.specs.Equality.{form_decides}
pub use Rattle.linear_forms.specs.Equality.{form_eq}
pub use Rattle.linear_forms.specs.Values.{Numbers}
pub use Rattle.linear_forms.specs.Values.{number_at}
pub use Rattle.linear_forms.specs.Values.{point_of}
