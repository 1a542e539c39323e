-- What the crates above name of `normal_atoms`.
pub use Rattle.normal_atoms.specs.Atoms.{IsAskedWhole}
pub use Rattle.normal_atoms.specs.Atoms.{IsWellFormed}
pub use Rattle.normal_atoms.specs.Atoms.{atom_of}
pub use Rattle.normal_atoms.specs.declared.atoms.Atom.TheVariants as atom_variants
pub use Rattle.normal_atoms.specs.declared.atoms.Atom.{Atom}
