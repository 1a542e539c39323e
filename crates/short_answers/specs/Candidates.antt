-- Atoms that may follow from a formula.
use Rattle.std.specs.Prelude.{ℤ, pos, ◌<ℤ◌, List}
use Rattle.exact_numbers.specs.Limit.{InLimit}
use Rattle.logic_meaning.specs.Some.{EachOf}
use Rattle.logic_meaning.specs.NormalForm.{IsNormal}
use Rattle.normal_atoms.specs.declared.atoms.Atom.{Atom}
use Rattle.normal_atoms.specs.declared.atoms.Context.{Context}
use Rattle.normal_atoms.specs.Atoms.{context_of, atom_of, IsWellFormed}

-- a normal atom of the program
pub record IsCandidate (c : Context) (a : Atom) : Type 0 where
  pub well_formed : IsWellFormed a
  pub normal : IsNormal (context_of c) (atom_of a)

abbrev pub AreCandidates : Context → List Atom → Type 0
AreCandidates c atoms = EachOf (IsCandidate c) atoms

-- a positive number of the program
pub record IsModulus (m : ℤ) : Type 0 where
  pub positive : pos 0 <ℤ m
  pub within : InLimit m
