-- Assumptions without the names of a block.
use Rattle.std.specs.Prelude.{List, [], ◌∷◌, if◌then◌else◌}
use Rattle.std.specs.List.{list_any}
use Rattle.logic_meaning.specs.Contained.{contains}
use Rattle.normal_atoms.specs.declared.atoms.Atom.{Atom}
use Rattle.normal_atoms.specs.Atoms.{atom_of}
use Rattle.logic_meaning.specs.declared.form.VarId.{VarId}

-- the atoms that have none of the names
abbrev pub lacking : List VarId → List Atom → List Atom
lacking names [] = []
lacking names (a ∷ ks) = if list_any (λ (x : VarId). contains (atom_of a) x.number) names then lacking names ks else a ∷ lacking names ks
