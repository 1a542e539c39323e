-- The atoms of a formula, in the order of its text.
use Rattle.std.specs.Prelude.{List, [], ◌∷◌, ◌++◌}
use Rattle.logic_meaning.specs.Formula.{Formula, Formulas, Yes, No, One, Not, And, Or, Impl, Repl, Equiv, Ex, All, none, also}
use Rattle.logic_meaning.specs.Atom.{Atom}
use Rattle.logic_meaning.specs.Tree.{Tree}
use Rattle.logic_meaning.specs.Distinct.{distinct}
use Rattle.logic_meaning.specs.Same.{same_atom}

module _ {A N : Type 0} where
  abbrev mutual
    -- each place of an atom, in the order of the text
    pub atoms_in : Formula A N → List A
    atoms_in Yes = []
    atoms_in No = []
    atoms_in (One a) = a ∷ []
    atoms_in (Not f) = atoms_in f
    atoms_in (And fs) = atoms_in_all fs
    atoms_in (Or fs) = atoms_in_all fs
    atoms_in (Impl f g) = atoms_in f ++ atoms_in g
    atoms_in (Repl f g) = atoms_in f ++ atoms_in g
    atoms_in (Equiv f g) = atoms_in f ++ atoms_in g
    atoms_in (Ex x f) = atoms_in f
    atoms_in (All x f) = atoms_in f

    -- the same of the members, one after the other
    pub atoms_in_all : Formulas A N → List A
    atoms_in_all none = []
    atoms_in_all (also f fs) = atoms_in f ++ atoms_in_all fs

-- each atom once, in the order of its first place
abbrev pub atoms_of : Tree → List Atom
atoms_of f = distinct same_atom (atoms_in f)
