-- What the program's assumptions are.
use Rattle.std.specs.Prelude.{◌≡◌, List, ◌++◌, map}
use Rattle.logic_meaning.specs.Formula.{No, One as Single}
use Rattle.logic_meaning.specs.Tree.{Tree}
use Rattle.normal_atoms.specs.Atoms.{atom_of, IsWellFormed}
use Rattle.session_state.specs.declared.assumption.Assumption.{Assumption}
use Rattle.session_state.specs.declared.assumption.Assumption.TheVariants.{False, One}

-- the formula
abbrev pub assumption_tree : Assumption → Tree
assumption_tree False = No
assumption_tree (One a) = Single (atom_of a)

-- the atom, if it is one, is well formed
abbrev pub IsFormed : Assumption → Type 0
IsFormed False = Unit {0}
IsFormed (One a) = IsWellFormed a

-- the formulas of a list of them
abbrev pub standing_trees : List Assumption → List Tree
standing_trees ks = map assumption_tree ks

-- the new list has the old one in front
pub record IsFront (old new : List Assumption) : Type 0 where
  pub more : List Assumption
  pub is : new ≡ old ++ more
