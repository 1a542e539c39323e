-- An atom as an answer of merging.
use Rattle.std.specs.Prelude.{◌≡◌}
use Rattle.exact_numbers.specs.Limit.{PastLimit}
use Rattle.logic_meaning.specs.Atom as meant
use Rattle.linear_forms.specs.Combinations.{IsLinear}
use Rattle.normal_atoms.specs.Atoms.{atom_of, IsWellFormed}
use Rattle.normal_atoms.specs.declared.answers.Merged.{Merged}
use Rattle.normal_atoms.specs.declared.answers.Merged.TheVariants.{True, False, One, Keep}

-- the atom
abbrev pub IsOne : meant.Atom → Merged → Type 0
IsOne a True = ⊥
IsOne a False = ⊥
IsOne a (One e) = (atom_of e ≡ a) × IsWellFormed e × IsLinear (meant.form_of a)
IsOne a Keep = ⊥

-- the atom, or nothing where its constant passes the limit
abbrev pub IsOneOrKept : meant.Atom → Merged → Type 0
IsOneOrKept a True = ⊥
IsOneOrKept a False = ⊥
IsOneOrKept a (One e) = (atom_of e ≡ a) × IsWellFormed e × IsLinear (meant.form_of a)
IsOneOrKept a Keep = PastLimit (meant.form_of a).constant
