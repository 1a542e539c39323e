-- The atoms of a list, and those that they tell the members beside them.
use Rattle.std.specs.Prelude.{◌≡◌, List, map}
use Rattle.logic_meaning.specs.Atom as meant
use Rattle.logic_meaning.specs.declared.junction.Junction.{Junction}
use Rattle.normal_atoms.specs.Atoms.{atom_of, IsWellFormed}
use Rattle.logic_meaning.specs.NormalForm.{negated_normal}
use Rattle.logic_meaning.specs.AtomKit.{tells}
use Rattle.theory_simplifier.specs.declared.joined.Entry.{Entry}

-- atoms of a list that the junction joins
pub record Listed : Type 0 where
  pub junction : Junction
  pub atoms : List meant.Atom

-- what the atoms tell
abbrev pub told_by : Listed → List meant.Atom
told_by l = map (tells negated_normal l.junction) l.atoms

abbrev pub entry_atom : Entry → meant.Atom
entry_atom e = atom_of e.atom

-- an atom beside what it tells
pub record IsEntry (junction : Junction) (e : Entry) : Type 0 where
  pub well_formed : IsWellFormed e.atom
  pub told_well_formed : IsWellFormed e.told
  pub tells_so : atom_of e.told ≡ tells negated_normal junction (atom_of e.atom)
