-- What the crates above name of `formula_laws`.
pub use Rattle.formula_laws.specs.Equivalence.{Equivalent}
pub use Rattle.formula_laws.specs.Equivalence.{InContext}
pub use Rattle.formula_laws.specs.Equivalence.{IsNegation}
pub use Rattle.formula_laws.specs.TheoryAtoms.{AtomIn}
